use Rattle.std.proofs.Common.{length}
use Rattle.name_tables.specs.Tables.{Agree}
use Rattle.early_errors.specs.PrivateUses.{undone_privates}
use Rattle.early_errors.specs.Walk.{look}
use Rattle.early_errors.proofs.private_names.close_class.Given as goal

abbrev pub invariant-loop-last : goal.invariant-loop-last
invariant-loop-last l = Agree (undone_privates (look l.privates) l.saved.items) (undone_privates (look l.initial.privates) l.initial.saved.items)

abbrev pub decreases-loop-last : goal.decreases-loop-last
decreases-loop-last l = length l.saved.items
