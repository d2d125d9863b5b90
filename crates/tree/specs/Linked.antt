-- Two proofs that nodes are linked are equal.
use Rattle.std.specs.Prelude.{ℕ, ◌+◌, List, [], ◌∷◌, Option, Some, None}
use Rattle.std.specs.Coded.{×_prop, Unit-prop, le_prop}
use Rattle.tree.specs.Flat.{IsBefore, AreBefore, IsLinked, AreLinked, run_of}
use Rattle.tree.specs.declared.flat_node.NodeNumber.{NodeNumber}
use Rattle.tree.specs.declared.flat_node.FlatNode.{FlatNode}

pub IsBefore-prop : (i : ℕ) (o : Option NodeNumber) → IsProp (IsBefore i o)
IsBefore-prop i None = Unit-prop
IsBefore-prop i (Some k) = le_prop

pub AreBefore-prop : (i : ℕ) (os : List (Option NodeNumber)) → IsProp (AreBefore i os)
AreBefore-prop i [] = Unit-prop
AreBefore-prop i (o ∷ os) = ×_prop (IsBefore-prop i o) (AreBefore-prop i os)

pub IsLinked-prop : (pool : List (Option NodeNumber)) (i : ℕ) (e : FlatNode) → IsProp (IsLinked pool i e)
IsLinked-prop pool i e = ×_prop le_prop (AreBefore-prop i (run_of pool e))

pub AreLinked-prop : (pool : List (Option NodeNumber)) (i : ℕ) (es : List FlatNode) → IsProp (AreLinked pool i es)
AreLinked-prop pool i [] = Unit-prop
AreLinked-prop pool i (e ∷ es) = ×_prop le_prop (×_prop (AreBefore-prop i (run_of pool e)) (AreLinked-prop pool (i + 1) es))
