use Rattle.std.proofs.Common.{length}
use Rattle.name_tables.specs.Tables.{Agree}
use Rattle.early_errors.specs.Walk.{look, undone}
use Rattle.early_errors.proofs.conflicts.close_scope.Given as goal

abbrev pub invariant-loop-last : goal.invariant-loop-last
invariant-loop-last l = Agree (undone (look l.clashes) l.saved.items) (undone (look l.initial.clashes) l.initial.saved.items)

abbrev pub decreases-loop-last : goal.decreases-loop-last
decreases-loop-last l = length l.saved.items
