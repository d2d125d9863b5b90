-- Searches in an expression and in those of its parts whose values may be its own.
use Rattle.std.specs.Prelude.{ℕ, ◌+◌, Bool, true, false, not, ◌||◌, ◌&&◌, nat_eq, nat_lt, cond, List, Option, Some, None}
use Rattle.tree.specs.declared.kind.Kind.{Kind}
use Rattle.tree.specs.declared.kind.Kind.TheVariants.{AssignmentExpression, AwaitExpression, BinaryExpression, ConditionalExpression, LogicalExpression, SequenceExpression}
use Rattle.tree.specs.Tree.{Tree, node, Parts, none, part, gap, kind_of, text_of, parts_of, part_at, part_count}
use Rattle.language.specs.Vocabulary.{is}
use Rattle.node_rules.specs.declared.value_search.Value.{Value}
use Rattle.node_rules.specs.declared.value_search.Value.TheVariants.{Chain, Error, NoText, Text}
use Rattle.node_rules.specs.KindSets.{is_chain, may_be_error}
use Rattle.node_rules.specs.Values.{is_text}

-- an assignment that may leave its right side out
abbrev pub is_logical_assignment : List ℕ → Bool
is_logical_assignment text = is text "&&=" || (is text "||=" || is text "??=")

-- nothing stands behind a place
abbrev pub is_last : (count place : ℕ) → Bool
is_last count place = nat_lt place count && nat_eq (place + 1) count

-- the value of the part at a place may be that of its node, which has so many parts
abbrev pub hands_on : Value → Kind → (text : List ℕ) → (count place : ℕ) → Bool
hands_on Text BinaryExpression text count place = is text "+"
hands_on NoText BinaryExpression text count place = is text "+"
hands_on Chain AwaitExpression text count place = true
hands_on Chain LogicalExpression text count place = is text "&&" || nat_eq place 1
hands_on Error LogicalExpression text count place = true
hands_on Error AssignmentExpression text count place = (is text "=" && nat_eq place 1) || is_logical_assignment text
hands_on Chain ConditionalExpression text count place = not (nat_eq place 0)
hands_on Error ConditionalExpression text count place = not (nat_eq place 0)
hands_on Chain SequenceExpression text count place = is_last count place
hands_on Error SequenceExpression text count place = is_last count place
hands_on _ _ text count place = false

-- a sum
abbrev pub is_sum : Tree → Bool
is_sum (node BinaryExpression text flags from to parts) = is text "+"
is_sum (node _ text flags from to parts) = false

-- what is looked for: a chain, what may be an Error, a string or template, what is neither that nor a sum
abbrev pub is_value : Value → Tree → Bool
is_value Chain tree = is_chain (kind_of tree)
is_value Error tree = may_be_error (kind_of tree)
is_value Text tree = is_text (Some tree)
is_value NoText tree = not (is_sum tree) && not (is_text (Some tree))

-- the part at a place, if its value may be that of its node
abbrev pub given_part : Value → Tree → ℕ → Option Tree
given_part value tree place = cond (hands_on value (kind_of tree) (text_of tree) (part_count (parts_of tree)) place) (part_at (parts_of tree) place) None

unfoldable mutual
  -- a node is so, or one whose value may be its own
  pub some_value : Value → Tree → Bool
  some_value value (node kind text flags from to parts) = is_value value (node kind text flags from to parts) || some_part value kind text (part_count parts) 0 parts

  -- parts of such a node, the first of them at this place
  pub some_part : Value → Kind → List ℕ → ℕ → ℕ → Parts → Bool
  some_part value kind text count i none = false
  some_part value kind text count i (part tree rest) = (hands_on value kind text count i && some_value value tree) || some_part value kind text count (i + 1) rest
  some_part value kind text count i (gap rest) = some_part value kind text count (i + 1) rest

-- the same of a part that may be missing
abbrev pub has_value : Value → Option Tree → Bool
has_value value None = false
has_value value (Some tree) = some_value value tree
