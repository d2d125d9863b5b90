-- What walks over nodes and lists of them go down by: how many nodes there are.
use Rattle.std.proofs.Common.{◌≡◌, ℕ, zero, suc, ◌<◌, ◌≤◌, arith, subst, sym}
use Rattle.tree.specs.Tree.{Tree, node, Parts, none, part, gap, parts_of, parts_drop, node_total, parts_total}
use Rattle.tree.proofs.PartWalk.{part_smaller, parts_total-at}

total_of_parts : (t : Tree) → parts_total (parts_of t) < node_total t
total_of_parts (node k w g s e ps) = omega arith

-- the parts of a node have fewer nodes than it
pub parts_fewer : (t : Tree) (ps : Parts) → ps ≡ parts_of t → parts_total ps < node_total t
parts_fewer t ps e = subst (λ qs. parts_total qs < node_total t) (sym e) (total_of_parts t)

total_of_drop : (ps : Parts) (i : ℕ) → parts_total (parts_drop i ps) ≤ parts_total ps
total_of_drop ps zero = omega arith
total_of_drop none (suc i) = omega arith
total_of_drop (part t ps) (suc i) = omega (arith, total_of_drop ps i)
total_of_drop (gap ps) (suc i) = omega (arith, total_of_drop ps i)

-- those from a place on have no more than all
pub drop_no_more : (ps qs : Parts) (i : ℕ) → qs ≡ parts_drop i ps → parts_total qs ≤ parts_total ps
drop_no_more ps qs i e = subst (λ rs. parts_total rs ≤ parts_total ps) (sym e) (total_of_drop ps i)

-- to be named by `using`
pub ruleset tree_measures = (part_smaller, parts_total-at, parts_fewer, drop_no_more)
