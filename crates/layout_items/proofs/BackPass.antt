-- What the items passed come to.
use Rattle.std.proofs.Common.{◌≡◌, ℕ, zero, suc, ◌+◌, ◌≤◌, List, [], ◌∷◌, ◌++◌, length, drop, arith}
use Rattle.layout_items.specs.declared.item.Item.{Item}
use Rattle.layout_items.specs.Passes.{size_of, sizes}

pub length-le : (is : List Item) → length is ≤ sizes is
unfolding sizes
length-le [] = omega arith
length-le (i ∷ is) = let h = length-le is in omega arith

pub sizes-drop : (k : ℕ) (is : List Item) → sizes (drop k is) ≤ sizes is
unfolding sizes
sizes-drop zero is = omega arith
sizes-drop (suc k) [] = omega arith
sizes-drop (suc k) (i ∷ is) = let h = sizes-drop k is in omega arith

pub sizes-push : (is : List Item) (i : Item) → sizes (is ++ i ∷ []) ≡ sizes is + size_of i
unfolding sizes
sizes-push [] i = omega arith
sizes-push (j ∷ is) i = let h = sizes-push is i in omega arith
