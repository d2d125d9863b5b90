-- A vector of nodes while it is filled: what stands in it stays, and what is added shows the tree that it was made of.
use Rattle.std.proofs.Common.{◌≡◌, ℕ, suc, ◌+◌, ◌≤◌, List, [], ◌∷◌, ◌++◌, length, take, drop, refl, sym, ap, ◌∙◌, arith, length-append, subst, length-drop}
use Rattle.std.proofs.lemmas.List.{take-append-le, drop-append-le}
use Rattle.tree.specs.Tree.{Tree, Parts, node, none, part, gap, node_total, parts_total}
use Rattle.tree.specs.declared.flat_node.FlatNode.{FlatNode}
use Rattle.tree.specs.Flat.{run_of, AreBefore, AreLinked, post_order, parts_post_order}
use Rattle.tree.specs.Growth.{node_runs}
use Rattle.tree.proofs.FlatTrees.{Pool}

mutual
  pub length-post_order : (t : Tree) → length (post_order t) ≡ node_total t
  length-post_order (node k w g s e ps) = omega (arith, length-append (parts_post_order ps) (node k w g s e ps ∷ []), length-parts_post_order ps)

  pub length-parts_post_order : (ps : Parts) → length (parts_post_order ps) ≡ parts_total ps
  length-parts_post_order none = refl
  length-parts_post_order (part t ps) = omega (arith, length-append (post_order t) (parts_post_order ps), length-post_order t, length-parts_post_order ps)
  length-parts_post_order (gap ps) = length-parts_post_order ps

-- Further parts behind those of all nodes change nothing

run-more : (pool more : Pool) (e : FlatNode) → e.first + e.count ≤ length pool → run_of (pool ++ more) e ≡ run_of pool e
run-more pool more e h =
    ap (take e.count) (drop-append-le e.first pool more (omega (arith, h)))
    ∙ take-append-le e.count (drop e.first pool) more (omega (arith, h, length-drop e.first pool))

pub runs-more : (pool more : Pool) (i : ℕ) (es : List FlatNode) → AreLinked pool i es → node_runs (pool ++ more) es ≡ node_runs pool es
runs-more pool more i [] a = refl
runs-more pool more i (e ∷ es) a =
    let here = run-more pool more e a.0 in
    let rest = runs-more pool more (i + 1) es a.1.1 in
    cc

pub AreLinked-more : (pool more : Pool) (i : ℕ) (es : List FlatNode) → AreLinked pool i es → AreLinked (pool ++ more) i es
AreLinked-more pool more i [] a = tt
AreLinked-more pool more i (e ∷ es) a = (
  omega (arith, a.0, length-append pool more),
  (subst (λ (os : Pool). AreBefore i os) (sym (run-more pool more e a.0)) a.1.0, AreLinked-more pool more (i + 1) es a.1.1),
)

pub AreLinked-append : (pool : Pool) (j : ℕ) (xs ys : List FlatNode) → AreLinked pool j xs → AreLinked pool (j + length xs) ys → AreLinked pool j (xs ++ ys)
AreLinked-append pool j [] ys a b = let at : j + 0 ≡ j = omega arith in subst (λ k. AreLinked pool k ys) at b
AreLinked-append pool j (x ∷ xs) ys a b =
    let at : j + suc (length xs) ≡ (j + 1) + length xs = omega arith in
    (a.0, (a.1.0, AreLinked-append pool (j + 1) xs ys a.1.1 (subst (λ k. AreLinked pool k ys) at b)))
