use Rattle.std.proofs.Common.{take}
use Rattle.name_tables.specs.Tables.{Agree}
use Rattle.early_errors.specs.Walk.{all_named, clashing, look, undone}
use Rattle.early_errors.proofs.conflicts.open_scope.Given as goal

abbrev pub invariant-loop-named : goal.invariant-loop-named
invariant-loop-named l = record {
  entered : Agree (look l.clashes) (clashing (look l.fn.clashes) l.error (all_named (take l.named-index l.names)));
  kept : Agree (undone (look l.clashes) l.saved.items) (undone (look l.fn.clashes) l.fn.saved.items);
}
