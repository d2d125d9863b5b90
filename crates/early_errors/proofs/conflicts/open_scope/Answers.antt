use Rattle.early_errors.specs.Walk.{look, undone, saved_name, saved_value}
use Rattle.early_errors.proofs.Tables.{entered-turn}
use Rattle.name_tables.proofs.Undone.{kept-turn}
use Rattle.early_errors.proofs.conflicts.open_scope.Goals as goal

pub loop-named-preserved : goal.loop-named-preserved
loop-named-preserved c = record {
  entered = entered-turn (look c.args.clashes.now) (look c.loop-named.clashes) (look c.replace.new.self) c.args.error c.args.names.now c.loop-named.named-index _ c.loop-named-test.true c.value-value.result c.with_error.result
      c.loop-named.invariant.entered c.value-value.ensures c.with_error.ensures c.in_ok-replace.ensures.after;
  kept = kept-turn saved_name saved_value (undone (look c.args.clashes.now) c.args.saved.now.items) (look c.loop-named.clashes) (look c.replace.new.self) _ c.loop-named.saved.items c.push.new.self.items c.with_error.result c.in_ok-push.ensures.items
      c.value-value.ensures c.in_ok-replace.ensures.after c.loop-named.invariant.kept;
}
