-- The pattern that a cover's tokens spell is of the base profile just where the expression is.
use Rattle.std.proofs.Common.{◌≡◌, ℕ, zero, suc, ◌||◌, List, refl}
use Rattle.tree.specs.declared.kind.Kind.{Kind}
use Rattle.tree.specs.declared.kind.Kind.TheVariants.{ArrayExpression, ObjectExpression, SpreadElement, Property, AssignmentExpression}
use Rattle.tree.specs.declared.kind.Flags.{Flags}
use Rattle.tree.specs.Tree.{Tree, node, Parts, none, part, gap}
use Rattle.language.specs.Later.{is_later, has_later, some_has_later}
use Rattle.tree.specs.Patterns.{pattern_kind, pattern_text, chosen, pattern_tree, pattern_parts}

node_later : (k : Kind) (w : List ℕ) (g : Flags) (st en : ℕ) (ps : Parts) → is_later (node (pattern_kind k) (pattern_text k w) g st en (chosen k ps (pattern_parts 0 ps) (pattern_parts 1 ps))) ≡ is_later (node k w g st en ps)
node_later AssignmentExpression w g st en ps = refl
node_later _ w g st en ps = refl

parts_later : (k : Kind) (ps : Parts) → some_has_later (pattern_parts 0 ps) ≡ some_has_later ps → some_has_later (pattern_parts 1 ps) ≡ some_has_later ps → some_has_later (chosen k ps (pattern_parts 0 ps) (pattern_parts 1 ps)) ≡ some_has_later ps
parts_later ArrayExpression ps h l = h
parts_later ObjectExpression ps h l = h
parts_later SpreadElement ps h l = h
parts_later Property ps h l = l
parts_later _ ps h l = refl

mutual
  unfolding has_later some_has_later

  pub pattern_later : (n : Tree) → has_later (pattern_tree n) ≡ has_later n
  pattern_later (node k w g st en ps) = λ i. node_later k w g st en ps i || parts_later k ps (pattern_parts_later 0 ps) (pattern_parts_later 1 ps) i

  pub pattern_parts_later : (n : ℕ) (ps : Parts) → some_has_later (pattern_parts n ps) ≡ some_has_later ps
  pattern_parts_later n none = refl
  pattern_parts_later zero (part t ps) = λ i. pattern_later t i || pattern_parts_later zero ps i
  pattern_parts_later (suc n) (part t ps) = λ i. has_later t || pattern_parts_later n ps i
  pattern_parts_later zero (gap ps) = pattern_parts_later zero ps
  pattern_parts_later (suc n) (gap ps) = pattern_parts_later n ps
