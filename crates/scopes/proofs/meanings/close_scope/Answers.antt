use Rattle.name_tables.specs.Tables.{value_at, undone, saved_name, saved_value}
use Rattle.name_tables.proofs.Undone.{leave-turn}
use Rattle.scopes.proofs.meanings.close_scope.Goals as goal

pub loop-last-preserved : goal.loop-last-preserved
loop-last-preserved c =
    leave-turn saved_name saved_value (undone (value_at c.args.meanings.now) c.args.saved.now.items) (value_at c.loop-last.meanings) (value_at c.set.new.self) c.in-Some.last c.loop-last.saved.items c.pop.new.self.items c.in-Some.ensures.items c.in_ok-set.ensures.ok c.loop-last.invariant
