use Rattle.std.proofs.Common.{ℕ, List}
use Rattle.tree.specs.Node.{node_tree}
use Rattle.tree.specs.Tree.{parts_of}
use Rattle.name_tables.specs.Tables.{Agree}
use Rattle.early_errors.specs.Owns.{Declares}
use Rattle.early_errors.specs.PrivateUses.{undone_privates}
use Rattle.early_errors.specs.Walk.{look}
use Rattle.early_errors.proofs.Privates.{InClass}
use Rattle.early_errors.proofs.private_names.open_class.Given as goal

abbrev pub invariant-loop-index : goal.invariant-loop-index
invariant-loop-index l = record {
  entered : (ws : List (List ℕ)) → Declares (look l.fn.privates) ws → InClass (look l.privates) l.index (parts_of (node_tree l.body)) ws;
  kept : Agree (undone_privates (look l.privates) l.saved.items) (undone_privates (look l.fn.privates) l.fn.saved.items);
}
