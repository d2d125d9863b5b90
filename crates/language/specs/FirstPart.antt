-- The first part, the others, and the leaf that a tree begins with.
use Rattle.std.specs.Prelude.{Bool, true, false, not, cond}
use Rattle.tree.specs.declared.kind.Kind.{Kind}
use Rattle.tree.specs.declared.kind.Kind.TheVariants.{Program, ObjectExpression, TaggedTemplateExpression, MemberExpression, CallExpression, ChainExpression, UpdateExpression, BinaryExpression, LogicalExpression, ConditionalExpression, AssignmentExpression, SequenceExpression, ObjectPattern}
use Rattle.tree.specs.declared.kind.Flags.{Flags}
use Rattle.tree.specs.Tree.{Tree, node, Parts, none, part, gap, kind_of}

-- the kind of the first part, that of the Program where there is none
abbrev pub lead : Parts → Kind
lead none = Program
lead (part tree rest) = kind_of tree
lead (gap rest) = Program

abbrev pub others : Parts → Parts
others none = none
others (part tree rest) = rest
others (gap rest) = rest

-- nodes that begin with their first part
abbrev pub goes_left : Kind → Flags → Bool
goes_left SequenceExpression flags = true
goes_left AssignmentExpression flags = true
goes_left ConditionalExpression flags = true
goes_left LogicalExpression flags = true
goes_left BinaryExpression flags = true
goes_left UpdateExpression flags = not flags.prefix
goes_left ChainExpression flags = true
goes_left CallExpression flags = true
goes_left MemberExpression flags = true
goes_left TaggedTemplateExpression flags = true
goes_left _ flags = false

abbrev pub is_braced : Kind → Bool
is_braced ObjectExpression = true
is_braced ObjectPattern = true
is_braced _ = false

abbrev mutual
  -- groups aside, the tree begins with `{`
  pub begins_with_brace : Tree → Bool
  begins_with_brace (node kind text flags from to parts) = cond (goes_left kind flags) (first_begins_with_brace parts) (is_braced kind)

  pub first_begins_with_brace : Parts → Bool
  first_begins_with_brace none = false
  first_begins_with_brace (part tree rest) = begins_with_brace tree
  first_begins_with_brace (gap rest) = false
