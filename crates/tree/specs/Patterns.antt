-- The tree of the pattern that a cover's tokens spell (ECMA-262 12.15.5, 14.2.1), where a pattern has such tokens.
use Rattle.std.specs.Prelude.{ℕ, zero, suc, List, []}
use Rattle.tree.specs.declared.kind.Kind.{Kind}
use Rattle.tree.specs.declared.kind.Kind.TheVariants.{ArrayExpression, ObjectExpression, AssignmentExpression, SpreadElement, Property, ArrayPattern, ObjectPattern, AssignmentPattern, RestElement}
use Rattle.tree.specs.Tree.{Tree, node, Parts, none, part, gap}

-- the kind, the text and the parts, where these are the patterns of all parts and of all but the first
abbrev pub pattern_kind : Kind → Kind
pattern_kind ArrayExpression = ArrayPattern
pattern_kind ObjectExpression = ObjectPattern
pattern_kind AssignmentExpression = AssignmentPattern
pattern_kind SpreadElement = RestElement
pattern_kind k = k

abbrev pub pattern_text : Kind → List ℕ → List ℕ
pattern_text AssignmentExpression w = []
pattern_text k w = w

abbrev pub chosen : Kind → Parts → Parts → Parts → Parts
chosen ArrayExpression ps all behind = all
chosen ObjectExpression ps all behind = all
chosen SpreadElement ps all behind = all
chosen Property ps all behind = behind
chosen k ps all behind = ps

abbrev mutual
  pub pattern_tree : Tree → Tree
  pattern_tree (node k w g s e ps) = node (pattern_kind k) (pattern_text k w) g s e (chosen k ps (pattern_parts 0 ps) (pattern_parts 1 ps))

  -- parts, from a place on
  pub pattern_parts : ℕ → Parts → Parts
  pattern_parts n none = none
  pattern_parts zero (part t ps) = part (pattern_tree t) (pattern_parts zero ps)
  pattern_parts (suc n) (part t ps) = part t (pattern_parts n ps)
  pattern_parts zero (gap ps) = gap (pattern_parts zero ps)
  pattern_parts (suc n) (gap ps) = gap (pattern_parts n ps)
