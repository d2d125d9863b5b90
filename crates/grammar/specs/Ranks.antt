-- The symbol at which an expression of each kind can be spelled directly.
use Rattle.std.specs.Prelude.{ℕ, Bool, true, false, not, cond, ◌&&◌, ◌||◌, List, [], ◌∷◌, Option, Some, None}
use Rattle.std.specs.Str.{bytes_eq}
use Rattle.tree.specs.declared.kind.Kind.{Kind}
use Rattle.tree.specs.declared.kind.Kind.TheVariants.{Identifier, Literal, ThisExpression, ArrayExpression, ObjectExpression, FunctionExpression, ArrowFunctionExpression, ClassExpression, TemplateLiteral, TaggedTemplateExpression, MemberExpression, CallExpression, NewExpression, MetaProperty, ImportExpression, ChainExpression, UpdateExpression, UnaryExpression, BinaryExpression, LogicalExpression, ConditionalExpression, AssignmentExpression, SequenceExpression, AwaitExpression, YieldExpression}
use Rattle.tree.specs.declared.kind.Flags.{Flags}
use Rattle.tree.specs.declared.kind.Form.{Form}
use Rattle.tree.specs.declared.kind.Form.TheVariants.{Init, Generator}
use Rattle.tree.specs.Tree.{Tree, Parts, none, part, gap, text_of}
use Rattle.language.specs.declared.Rank.{Rank}
use Rattle.language.specs.declared.Rank.TheVariants.{Expression, Assignment, Conditional, Relational, Exponentiation, Unary, Update, LeftHandSide, Call, Member, Primary}
use Rattle.language.specs.FirstPart.{lead, others}
use Rattle.language.specs.Vocabulary.{is, among, Operator, op_binary, op_power, operator_of, is_assignment, is_update_operator, is_prefix, is_reserved, literal_class, is_name, is_private, is_target, is_pattern}
use Rattle.language.specs.Pieces.{is_none}
use Rattle.language.specs.Expressions.{first_has_optional, lead_is}
use Rattle.language.specs.Grammar.{production_rank}

-- of the names only `true`, `false` and `null` are literals
abbrev pub is_spelled_literal : List ℕ → Bool
is_spelled_literal w = not (is_name (literal_class w) && not (among w ("true" ∷ "false" ∷ "null" ∷ [])))

-- the symbol of the node that a binary operator makes
abbrev pub binary_symbol : Operator → Option Rank
binary_symbol (op_binary false z q) = Some (production_rank z)
binary_symbol op_power = Some Exponentiation
binary_symbol _ = None

-- the symbol of the node that a logical operator makes
abbrev pub logical_symbol : Operator → Option Rank
logical_symbol (op_binary true z q) = Some (production_rank z)
logical_symbol _ = None

-- what an assignment's operator can assign to
abbrev pub is_assigned : List ℕ → Kind → Bool
is_assigned w k = is_target k || (is w "=" && is_pattern k)

abbrev pub rank_if : Bool → Rank → Option Rank
rank_if b z = cond b (Some z) None

-- the part is there and has this text
abbrev pub is_text : Option Tree → List ℕ → Bool
is_text None v = false
is_text (Some n) v = bytes_eq (text_of n) v

-- of a binary expression whose first part is of this kind: with a private name there only `in` makes one
abbrev pub private_or_binary : Kind → List ℕ → Option Rank
private_or_binary k w = cond (is_private k) (rank_if (is w "in") Relational) (binary_symbol (operator_of w))

-- `new.target` or `import.meta`
abbrev pub is_meta : Parts → Bool
is_meta ps = (lead_is ps "new" && lead_is (others ps) "target") || (lead_is ps "import" && lead_is (others ps) "meta")

-- a `yield` with an operand or none, or a `yield*` with one
abbrev pub is_yield_of : Form → Parts → Bool
is_yield_of Init (gap none) = true
is_yield_of Init (part n none) = true
is_yield_of Generator (part n none) = true
is_yield_of _ ps = false

-- of the kinds that have one whatever the text, flags and parts
abbrev pub plain_rank : Kind → Option Rank
plain_rank ThisExpression = Some Primary
plain_rank ArrayExpression = Some Primary
plain_rank ObjectExpression = Some Primary
plain_rank FunctionExpression = Some Primary
plain_rank ClassExpression = Some Primary
plain_rank TemplateLiteral = Some Primary
plain_rank TaggedTemplateExpression = Some Member
plain_rank NewExpression = Some Member
plain_rank ImportExpression = Some Call
plain_rank AwaitExpression = Some Unary
plain_rank ConditionalExpression = Some Conditional
plain_rank ArrowFunctionExpression = Some Assignment
plain_rank _ = None

-- by kind, text, flags and parts
abbrev pub rank_by : Kind → List ℕ → Flags → Parts → Option Rank
rank_by Identifier w g ps = rank_if (not (is_reserved w)) Primary
rank_by Literal w g ps = rank_if (is_spelled_literal w) Primary
rank_by MemberExpression w g ps = rank_if (not g.optional) Member
rank_by CallExpression w g ps = rank_if (not g.optional) Call
rank_by MetaProperty w g ps = rank_if (is_meta ps) Member
rank_by ChainExpression w g ps = rank_if (first_has_optional ps) LeftHandSide
rank_by UpdateExpression w g ps = rank_if (is_update_operator w && is_target (lead ps)) Update
rank_by UnaryExpression w g ps = rank_if (is_prefix w) Unary
rank_by BinaryExpression w g ps = private_or_binary (lead ps) w
rank_by LogicalExpression w g ps = logical_symbol (operator_of w)
rank_by AssignmentExpression w g ps = rank_if (is_assignment w && is_assigned w (lead ps)) Assignment
rank_by SequenceExpression w g ps = rank_if (not (is_none (others ps))) Expression
rank_by YieldExpression w g ps = rank_if (is_yield_of g.form ps) Assignment
rank_by k w g ps = plain_rank k
