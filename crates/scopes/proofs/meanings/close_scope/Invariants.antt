use Rattle.std.proofs.Common.{length}
use Rattle.name_tables.specs.Tables.{Agree, value_at, undone}
use Rattle.scopes.proofs.meanings.close_scope.Given as goal

abbrev pub invariant-loop-last : goal.invariant-loop-last
invariant-loop-last l = Agree (undone (value_at l.meanings) l.saved.items) (undone (value_at l.initial.meanings) l.initial.saved.items)

abbrev pub decreases-loop-last : goal.decreases-loop-last
decreases-loop-last l = length l.saved.items
