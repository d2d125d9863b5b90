-- Two trees that are the same but for places are equally high, and a layout has as many parentheses open as twice the height at most.
use Rattle.std.proofs.Common.{◌≡◌, suc, ◌≤◌, max, refl, sym, ap, ap₂, ◌∙◌, subst, arith}
use Rattle.tree.specs.Tree.{Tree, node, Parts, none, part, gap, bare, bare_parts, height, parts_height, SameTree}
use Rattle.language.specs.Pieces.{script}
use Rattle.language.specs.Claims.{max_height, max_open}
use Rattle.language.specs.Layout.{wrapped_rows, has_number}
use Rattle.language.specs.Printed.{open_in}
use Rattle.language.proofs.layout.OpenBound.{open_bound}

mutual
  pub height_bare : (n : Tree) → height (bare n) ≡ height n
  height_bare (node k w g s e ps) = ap (λ x. suc x) (parts_height_bare ps)

  pub parts_height_bare : (ps : Parts) → parts_height (bare_parts ps) ≡ parts_height ps
  parts_height_bare none = refl
  parts_height_bare (part n ps) = ap₂ (λ x y. max x y) (height_bare n) (parts_height_bare ps)
  parts_height_bare (gap ps) = parts_height_bare ps

pub same_height : (m n : Tree) → SameTree m n → height m ≡ height n
same_height m n h = sym (height_bare m) ∙ ap height h ∙ height_bare n

pub height_within : (m n : Tree) → SameTree m n → height n ≤ max_height → height m ≤ max_height
height_within m n h low = subst (λ k. k ≤ max_height) (sym (same_height m n h)) low

pub open_within : (n : Tree) → height n ≤ max_height → open_in (has_number (wrapped_rows n script 1)) n script 1 ≤ max_open
open_within n low = let b = open_bound (has_number (wrapped_rows n script 1)) n script 1 in omega (arith, b, low)
