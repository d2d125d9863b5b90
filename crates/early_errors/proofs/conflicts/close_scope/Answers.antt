use Rattle.early_errors.specs.Walk.{look, undone, saved_name, saved_value}
use Rattle.name_tables.proofs.Undone.{leave-turn}
use Rattle.early_errors.proofs.conflicts.close_scope.Goals as goal

pub loop-last-preserved : goal.loop-last-preserved
loop-last-preserved c =
    leave-turn saved_name saved_value (undone (look c.args.clashes.now) c.args.saved.now.items) (look c.loop-last.clashes) (look c.replace.new.self) c.in-Some.last c.loop-last.saved.items c.pop.new.self.items c.in-Some.ensures.items c.in_ok-replace.ensures.after c.loop-last.invariant
