-- What is kept of a node that waits, by its tree.
use Rattle.std.specs.Prelude.{ℕ, Bool, true, false, ◌||◌, nat_eq, List, slice_index_or, Option, Some, None, option_map}
use Rattle.tree.specs.declared.kind.Kind.{Kind}
use Rattle.tree.specs.declared.kind.Kind.TheVariants.{Literal, ArrayExpression, ObjectExpression, AssignmentExpression, SpreadElement, Property}
use Rattle.tree.specs.Patterns.{pattern_kind}
use Rattle.tree.specs.Tree.{Tree, Parts, none, part, gap, kind_of, text_of, flags_of, start_of, height}
use Rattle.productions.specs.declared.node_summary.NodeSummary.{NodeSummary}

-- the text begins with a quote
abbrev pub is_quoted : List ℕ → Bool
is_quoted text = let c = slice_index_or text 0 0 in nat_eq c 34 || nat_eq c 39

-- a string literal
abbrev pub is_string : Kind → List ℕ → Bool
is_string Literal text = is_quoted text
is_string _ text = false

abbrev pub summary_of : Tree → NodeSummary
summary_of t = record {
  start = start_of t;
  levels = height t;
  kind = kind_of t;
  is_optional = (flags_of t).optional;
  is_directive = (flags_of t).directive;
  is_string = is_string (kind_of t) (text_of t);
}

-- the pattern is another node than what becomes it
abbrev pub becomes_another : Kind → Bool
becomes_another ArrayExpression = true
becomes_another ObjectExpression = true
becomes_another AssignmentExpression = true
becomes_another SpreadElement = true
becomes_another Property = true
becomes_another _ = false

abbrev pub pattern_summary : NodeSummary → NodeSummary
pattern_summary s = record s { kind = pattern_kind s.kind }

-- the last part, behind one that may be missing; none where it is a gap
abbrev pub last_or : Option Tree → Parts → Option Tree
last_or last none = last
last_or last (part tree rest) = last_or (Some tree) rest
last_or last (gap rest) = last_or None rest

abbrev pub last_part : Parts → Option Tree
last_part parts = last_or None parts

abbrev pub last_summary : Parts → Option NodeSummary
last_summary parts = option_map summary_of (last_part parts)
