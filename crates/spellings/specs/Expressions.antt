-- The outlines of expressions, of a node's kind, text and flags, of what stands at each place among its parts, of the parts' texts,
-- and whether its first part is part of a chain with a `?.` in it.
use Rattle.std.specs.Prelude.{ℕ, Bool, true, false, not, cond, ◌&&◌, ◌||◌, List, [], ◌∷◌, Option, Some, None}
use Rattle.language.specs.declared.Rank.{Rank}
use Rattle.language.specs.declared.Rank.TheVariants.{Expression, Assignment, Unary, Update, LeftHandSide, Call, Member, Primary}
use Rattle.language.specs.declared.Start.TheVariants.{Any, NoBrace}
use Rattle.tree.specs.declared.kind.Kind.{Kind}
use Rattle.tree.specs.declared.kind.Kind.TheVariants as kind
use Rattle.tree.specs.declared.kind.Flags.{Flags}
use Rattle.tree.specs.declared.kind.Form.{Form}
use Rattle.tree.specs.declared.kind.Form.TheVariants as form
use Rattle.tree.specs.Uses.{is_function_form}
use Rattle.language.specs.Vocabulary.{is, among, is_assignment, is_update_operator, is_prefix, is_reserved, literal_class, is_name, is_target, is_pattern, is_private, is_super}
use Rattle.spellings.specs.declared.parts.PartAt.{PartAt}
use Rattle.spellings.specs.declared.parts.PartAt.TheVariants.{Past, Gap, Part}
use Rattle.spelling_table.specs.declared.position.Position.TheVariants as at
use Rattle.spelling_table.specs.declared.position.Slot.{Slot}
use Rattle.spelling_table.specs.declared.position.Slot.TheVariants.{Fixed, Left, Lead, Callee, LeadSpine, LeadPattern}
use Rattle.spelling_table.specs.declared.position.Slot.TheVariants as slot
use Rattle.spelling_table.specs.declared.outline.FixedSlots.{FixedSlots}
use Rattle.spelling_table.specs.declared.outline.FixedSlots.TheVariants.{Zero, One, Two, Three}
use Rattle.spelling_table.specs.declared.outline.ListSlots.TheVariants as tail
use Rattle.spelling_table.specs.declared.outline.Outline.{Outline}
use Rattle.grammar.specs.declared.operators.Operation.{Operation}
use Rattle.grammar.specs.declared.operators.Operation.TheVariants.{Binds, Powers}
use Rattle.grammar.specs.Operations.{operation_at}
use Rattle.spelling_table.specs.Productions.{opens_with_word, opens_with_brace, heritage_at, list_outline, new_outline, conditional_outline, power_outline, private_in_outline}
use Rattle.spelling_table.specs.Outlines.{assignment_at, whole_at, leaf, fronted, lined}

-- what stands where among the parts; the texts of the first two; whether the first is part of a chain with a `?.`; whether the
-- second ends in an `if` without `else`; whether behind the first more than one is a case without test
pub record Around : Type 0 where
  pub first : PartAt
  pub second : PartAt
  pub third : PartAt
  pub fourth : PartAt
  pub first_text : List ℕ
  pub second_text : List ℕ
  pub chained : Bool
  pub dangling : Bool
  pub defaults_twice : Bool
  -- the form of the second, a method's function; whether the first begins with `{`; whether imports and exports of names are in order
  pub second_form : Form
  pub braced : Bool
  pub imports_fit : Bool
  pub exports_fit : Bool

-- the kind that stands there, that of the Program where none does
abbrev pub kind_at : PartAt → Kind
kind_at Past = kind.Program
kind_at Gap = kind.Program
kind_at (Part k) = k

abbrev pub is_past : PartAt → Bool
is_past Past = true
is_past _ = false

abbrev pub identifier_outline : List ℕ → Option Outline
identifier_outline w = cond (is_reserved w) None (Some (leaf Primary))

abbrev pub literal_outline : List ℕ → Option Outline
literal_outline w = cond (is_name (literal_class w) && not (among w ("true" ∷ "false" ∷ "null" ∷ []))) None (Some (leaf Primary))

-- where this holds
abbrev pub only_if : Bool → Option Outline → Option Outline
only_if b x = cond b x None

-- a function, by what stands at its name's place
abbrev pub named_function : PartAt → Option Outline
named_function Past = None
named_function Gap = Some (opens_with_word (lined Primary Zero (tail.Parameters (Fixed at.Body)) 1))
named_function (Part k) = Some (opens_with_word (lined Primary (One (Fixed at.Name)) (tail.Parameters (Fixed at.Body)) 1))

abbrev pub function_outline : Form → PartAt → Option Outline
function_outline x a = only_if (is_function_form x) (named_function a)

abbrev pub class_front : PartAt → PartAt → Option FixedSlots
class_front Past b = None
class_front Gap Past = None
class_front Gap Gap = Some (One (Fixed at.ClassBody))
class_front Gap (Part k) = Some (Two heritage_at (Fixed at.ClassBody))
class_front (Part j) Past = None
class_front (Part j) Gap = Some (Two (Fixed at.Name) (Fixed at.ClassBody))
class_front (Part j) (Part k) = Some (Three (Fixed at.Name) heritage_at (Fixed at.ClassBody))

abbrev pub class_of_front : Option FixedSlots → Option Outline
class_of_front None = None
class_of_front (Some f) = Some (opens_with_word (fronted Primary f))

abbrev pub class_outline : PartAt → PartAt → Option Outline
class_outline a b = class_of_front (class_front a b)

abbrev pub is_arrow_form : Form → Bool
is_arrow_form form.Init = true
is_arrow_form form.Async = true
is_arrow_form _ = false

abbrev pub plain_arrow : Flags → Outline
plain_arrow g = lined Assignment Zero (tail.Parameters (cond g.expression (slot.Tail Assignment NoBrace) (Fixed at.Body))) 0

abbrev pub arrow_outline : Flags → Option Outline
arrow_outline g = only_if (is_arrow_form g.form) (Some (plain_arrow g))

abbrev pub meta_outline : List ℕ → List ℕ → Option Outline
meta_outline v w = cond ((is v "new" && is w "target") || (is v "import" && is w "meta")) (Some (fronted Member (Two (Fixed at.IdentifierName) (Fixed at.IdentifierName)))) None

abbrev pub chain_outline : Bool → Option Outline
chain_outline b = cond b (Some (fronted LeftHandSide (One LeadSpine))) None

abbrev pub sequence_outline : PartAt → Option Outline
sequence_outline e = cond (is_past e) None (Some (lined Expression (One (Left Assignment)) (tail.Each (slot.Tail Assignment Any)) 1))

-- the property of a member, of this kind
abbrev pub selected : Flags → Kind → Slot
selected g p = Fixed (cond g.computed whole_at (cond (is_private p) at.PrivateName at.IdentifierName))

-- a member, by the kinds of its object and its property; behind `super` stands no private name
abbrev pub member_outline : Flags → Kind → Kind → Option Outline
member_outline g k p =
    cond g.optional None (cond (is_super k) (Some (fronted Member (Two (Fixed at.Super) (selected g kind.Identifier)))) (Some (fronted Member (Two Callee (selected g p)))))

abbrev pub call_outline : Flags → Kind → Option Outline
call_outline g k = cond g.optional None (Some (lined Call (One (cond (is_super k) (Fixed at.Super) (Lead Call))) (tail.Arguments false) 1))

abbrev pub update_outline : List ℕ → Flags → Kind → Option Outline
update_outline w g k = cond (is_update_operator w && is_target k) (Some (fronted Update (One (cond g.prefix (Fixed (at.Expression LeftHandSide true Any)) (Lead LeftHandSide))))) None

abbrev pub unary_outline : List ℕ → Option Outline
unary_outline w = cond (is_prefix w) (Some (fronted Unary (One (Fixed (at.Expression Unary true Any))))) None

abbrev pub joined_outline : List ℕ → Rank → Rank → Outline
joined_outline w z q = record (fronted z (Two (Left z) (slot.Tail q Any))) { needs_in = is w "in" }

abbrev pub binary_outline : List ℕ → Operation → Option Outline
binary_outline w (Binds false z q) = Some (joined_outline w z q)
binary_outline w Powers = Some power_outline
binary_outline w _ = None

-- a private name may stand before `in` alone
abbrev pub binary_by : List ℕ → Kind → Option Outline
binary_by w k = cond (is_private k) (only_if (is w "in") (Some private_in_outline)) (binary_outline w (operation_at w))

abbrev pub logical_outline : List ℕ → Operation → Option Outline
logical_outline w (Binds true z q) = Some (joined_outline w z q)
logical_outline w _ = None

abbrev pub assigned : Slot → Option Outline
assigned x = Some (fronted Assignment (Two x (slot.Tail Assignment Any)))

abbrev pub assignment_outline : List ℕ → Kind → Option Outline
assignment_outline w k = cond (is_assignment w) (cond (is_target k) (assigned (Lead LeftHandSide)) (cond (is w "=" && is_pattern k) (assigned LeadPattern) None)) None

-- with one operand, or with none and no `*`
abbrev pub yield_outline : Form → PartAt → PartAt → Option Outline
yield_outline form.Init (Part k) Past = Some (fronted Assignment (One (slot.Tail Assignment Any)))
yield_outline form.Init Gap Past = Some (fronted Assignment Zero)
yield_outline form.Generator (Part k) Past = Some (fronted Assignment (One (slot.Tail Assignment Any)))
yield_outline _ a b = None

-- operations
abbrev pub operation_outline : Kind → List ℕ → Flags → Around → Option Outline
operation_outline kind.UpdateExpression w g a = update_outline w g (kind_at a.first)
operation_outline kind.UnaryExpression w g a = unary_outline w
operation_outline kind.AwaitExpression w g a = Some (fronted Unary (One (Fixed (at.Expression Unary true Any))))
operation_outline kind.BinaryExpression w g a = binary_by w (kind_at a.first)
operation_outline kind.LogicalExpression w g a = logical_outline w (operation_at w)
operation_outline kind.ConditionalExpression w g a = Some conditional_outline
operation_outline kind.YieldExpression w g a = yield_outline g.form a.first a.second
operation_outline kind.AssignmentExpression w g a = assignment_outline w (kind_at a.first)
operation_outline kind.SequenceExpression w g a = sequence_outline a.second
operation_outline _ w g a = None

-- what stands at a symbol from LeftHandSide to Member
abbrev pub reference_outline : Kind → List ℕ → Flags → Around → Option Outline
reference_outline kind.TaggedTemplateExpression w g a = Some (fronted Member (Two Callee (Fixed at.TaggedQuasi)))
reference_outline kind.MemberExpression w g a = member_outline g (kind_at a.first) (kind_at a.second)
reference_outline kind.CallExpression w g a = call_outline g (kind_at a.first)
reference_outline kind.NewExpression w g a = Some new_outline
reference_outline kind.MetaProperty w g a = meta_outline a.first_text a.second_text
reference_outline kind.ImportExpression w g a = Some (fronted Call (One (Fixed assignment_at)))
reference_outline kind.ChainExpression w g a = chain_outline a.chained
reference_outline k w g a = operation_outline k w g a

-- functions and classes
abbrev pub definition_outline : Kind → List ℕ → Flags → Around → Option Outline
definition_outline kind.FunctionExpression w g a = function_outline g.form a.first
definition_outline kind.ClassExpression w g a = class_outline a.first a.second
definition_outline kind.ArrowFunctionExpression w g a = arrow_outline g
definition_outline k w g a = reference_outline k w g a

-- the others at Primary
abbrev pub expression_outline : Kind → List ℕ → Flags → Around → Option Outline
expression_outline kind.Identifier w g a = identifier_outline w
expression_outline kind.Literal w g a = literal_outline w
expression_outline kind.ThisExpression w g a = Some (leaf Primary)
expression_outline kind.ArrayExpression w g a = Some (list_outline (tail.Arguments true))
expression_outline kind.ObjectExpression w g a = Some (opens_with_brace (list_outline tail.ObjectParts))
expression_outline kind.TemplateLiteral w g a = Some (list_outline (tail.Chunks true))
expression_outline k w g a = definition_outline k w g a
