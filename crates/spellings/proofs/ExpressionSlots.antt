-- Slots whose roles are not at New, have In or a tighter rank than a call, and begin with anything where the node does: of tails, and of the
-- outlines of expressions, names, patterns and members.
use Rattle.std.proofs.Common.{◌≡◌, ℕ, Bool, true, false, cond, nat_le, nat_eq, List, [], ◌∷◌, Option, Some, None, refl, arith}
use Rattle.std.specs.Prelude.{◌&&◌, ◌||◌, not}
use Rattle.std.proofs.lemmas.Bool.{and_parts, and_from}
use Rattle.std.proofs.lemmas.Bool.Decides.{nat_tests}
use Rattle.tree.specs.Tree.{Parts, none, part, gap, kind_of, flags_of}
use Rattle.tree.specs.Uses.{is_function_form}
use Rattle.tree.specs.declared.kind.Kind.{Kind}
use Rattle.tree.specs.declared.kind.Kind.TheVariants as kind
use Rattle.tree.specs.declared.kind.Flags.{Flags}
use Rattle.tree.specs.declared.kind.Form.{Form}
use Rattle.tree.specs.declared.kind.Form.TheVariants as form
use Rattle.language.specs.declared.Rank.{Rank}
use Rattle.language.specs.declared.Rank.TheVariants.{Assignment, LeftHandSide, Call}
use Rattle.language.specs.declared.Start.{Start}
use Rattle.language.specs.declared.Start.TheVariants.{Any, NoBrace, Statement}
use Rattle.language.specs.Vocabulary.{precedence, is, is_assignment, is_rest, is_spread, is_pattern, is_identifier, is_target, is_super, is_private, Operator, op_binary, operator_of}
use Rattle.language.specs.Pieces.{Role, expr, chain_part, pattern, Slot, fixed, left, lead, tail}
use Rattle.language.specs.Statements.{is_module_item}
use Rattle.language.specs.Grammar.{is_function_at}
use Rattle.language.proofs.table.OperatorFacts.{Binding, binding}
use Rattle.spellings.specs.declared.parts.PartAt.{PartAt}
use Rattle.spellings.specs.declared.parts.PartAt.TheVariants.{Past, Gap, Part}
use Rattle.spelling_table.specs.declared.position.Position.{Position}
use Rattle.spelling_table.specs.declared.position.Position.TheVariants as at
use Rattle.spelling_table.specs.declared.position.Slot as slots
use Rattle.spelling_table.specs.declared.position.Slot.TheVariants as slot
use Rattle.spelling_table.specs.declared.outline.FixedSlots.{FixedSlots}
use Rattle.spelling_table.specs.declared.outline.FixedSlots.TheVariants.{Zero, One, Two, Three, Four}
use Rattle.spelling_table.specs.declared.outline.ListSlots as tails
use Rattle.spelling_table.specs.declared.outline.ListSlots.TheVariants as tail_of
use Rattle.spelling_table.specs.declared.outline.Outline.{Outline}
use Rattle.grammar.specs.declared.operators.Operation.{Operation}
use Rattle.grammar.specs.declared.operators.Operation.TheVariants.{Binds, Powers}
use Rattle.grammar.specs.Operations.{operation, operation_at}
use Rattle.spelling_table.specs.Outlines.{assignment_at, whole_at, slot_of, bound_at, default_at, element_at, argument_at, object_part_at, pattern_part_at, listed_at, tail_at, tail_slots, before, going, part_of_tail, is_before_last, front_before, parts_after, outline_slots, is_over, skips_gap, may_end}
use Rattle.spellings.specs.Expressions as expressions
use Rattle.spellings.specs.Expressions.{Around, kind_at}
use Rattle.spellings.specs.Others as others

-- no looser than a call: neither New nor Call nor Member
abbrev pub is_loose : Rank → Bool
is_loose y = nat_le (precedence y) 18

-- the cell that counts at the position says what a node costs there
abbrev pub is_plain : Role → Bool
is_plain (expr y i f) = is_loose y || (i && not (nat_eq (precedence y) 19))
is_plain _ = true

abbrev is_any : Start → Bool
is_any Any = true
is_any _ = false

abbrev pub is_wide : Role → Bool
is_wide (chain_part f) = is_any f
is_wide (pattern b f) = is_any f
is_wide _ = true

abbrev pub is_no_statement : Start → Bool
is_no_statement Statement = false
is_no_statement _ = true

-- no expression stands at a statement's start without In
abbrev pub is_lawful : Role → Bool
is_lawful (expr y i f) = i || is_no_statement f
is_lawful _ = true

abbrev pub good : Slot → Bool
good (fixed a) = is_plain a && (is_wide a && is_lawful a)
good (left y) = is_loose y
good (lead y) = not (nat_eq (precedence y) 19)
good (tail y f) = is_loose y && is_no_statement f
good _ = true

abbrev pub all_good : List Slot → Bool
all_good [] = true
all_good (s ∷ xs) = good s && all_good xs

abbrev pub given_good : Option (List Slot) → Bool
given_good None = true
given_good (Some xs) = all_good xs

abbrev pub good_at : slots.Slot → Bool
good_at x = good (slot_of x)

abbrev pub good_role : Option Position → Bool
good_role None = true
good_role (Some a) = good_at (slot.Fixed a)

abbrev pub good_front : FixedSlots → Bool
good_front Zero = true
good_front (One a) = good_at a
good_front (Two a b) = good_at a && good_at b
good_front (Three a b c) = good_at a && (good_at b && good_at c)
good_front (Four a b c d) = good_at a && (good_at b && (good_at c && good_at d))

abbrev pub good_some_front : Option FixedSlots → Bool
good_some_front None = true
good_some_front (Some f) = good_front f

abbrev good_tail : tails.ListSlots → Bool
good_tail (tail_of.Each x) = good_at x
good_tail (tail_of.Some x) = good_at x
good_tail (tail_of.Parameters x) = good_at x
good_tail _ = true

abbrev good_step : Option (slots.Slot × tails.ListSlots) → Bool
good_step None = true
good_step (Some x) = good_at x.0 && good_tail x.1

-- Of a tail

pub bound_good : (b : Bool) (k : Kind) → good_role (bound_at b k) ≡ true
bound_good true k = of (is_pattern k) (is_identifier k)
  where
    of : (u v : Bool) → good_role (cond u (Some (at.Pattern true Any)) (cond v (Some at.Name) None)) ≡ true
    of true v = refl
    of false true = refl
    of false false = refl
bound_good false k = of (is_pattern k) (is_target k)
  where
    of : (u v : Bool) → good_role (cond u (Some (at.Pattern false Any)) (cond v (Some (at.Expression LeftHandSide true Any)) None)) ≡ true
    of true v = refl
    of false true = refl
    of false false = refl

default_good : (b : Bool) (k : Kind) → good_role (default_at b k) ≡ true
default_good b kind.AssignmentPattern = refl
default_good b k = bound_good b k

element_good : (b : Bool) (k : Kind) → good_role (element_at b k) ≡ true
element_good b k = of (is_rest k) (default_at b k) (default_good b k)
  where
    of : (u : Bool) (o : Option Position) → good_role o ≡ true → good_role (cond u (Some (at.Rest b false)) o) ≡ true
    of true o h = refl
    of false o h = h

argument_good : (k : Kind) → good_role (Some (argument_at k)) ≡ true
argument_good k = of (is_spread k)
  where
    of : (u : Bool) → good_role (Some (cond u at.Spread assignment_at)) ≡ true
    of true = refl
    of false = refl

object_part_good : (k : Kind) → good_role (object_part_at k) ≡ true
object_part_good kind.SpreadElement = refl
object_part_good kind.Property = refl
object_part_good _ = refl

pattern_part_good : (b : Bool) (k : Kind) → good_role (pattern_part_at b k) ≡ true
pattern_part_good b kind.RestElement = refl
pattern_part_good b kind.Property = refl
pattern_part_good b _ = refl

listed_good : (o : Option Position) (k : Kind) (last : Bool) (t : tails.ListSlots) → good_role o ≡ true → good_tail t ≡ true → good_step (listed_at o k last t) ≡ true
listed_good None k last t h e = refl
listed_good (Some a) k last t h e = of (last || not (is_rest k))
  where
    of : (u : Bool) → good_step (cond u (Some (slot.Fixed a, t)) None) ≡ true
    of true = and_from _ _ h e
    of false = refl

step_good : (t : tails.ListSlots) (k : Kind) (d last before_last : Bool) → good_tail t ≡ true → good_step (tail_at t k d last before_last) ≡ true
step_good tail_of.Nothing k d l b h = refl
step_good (tail_of.Each x) k d l b h = and_from _ _ h h
step_good (tail_of.Some x) k d l b h = and_from _ _ h h
step_good (tail_of.Arguments g) k d l b h = listed_good (Some (argument_at k)) k l (tail_of.Arguments g) (argument_good k) refl
step_good tail_of.ObjectParts k d l b h = listed_good (object_part_at k) k l tail_of.ObjectParts (object_part_good k) refl
step_good (tail_of.PatternElements c) k d l b h = listed_good (element_at c k) k l (tail_of.PatternElements c) (element_good c k) refl
step_good (tail_of.PatternProperties c) k d l b h = listed_good (pattern_part_at c k) k l (tail_of.PatternProperties c) (pattern_part_good c k) refl
step_good (tail_of.Parameters x) k d l b h = of l
  where
    of : (u : Bool) → good_step (cond u (Some (x, tail_of.Nothing)) (listed_at (element_at true k) k b (tail_of.Parameters x))) ≡ true
    of true = and_from _ _ h refl
    of false = listed_good (element_at true k) k b (tail_of.Parameters x) (element_good true k) h
step_good (tail_of.Chunks c) k d true b h = refl
step_good (tail_of.Chunks c) k d false b h = refl
step_good tail_of.Substitution k d l b h = refl
step_good (tail_of.Prologue r true) k d l b h = refl
step_good (tail_of.Prologue r false) k d l b h = refl
step_good (tail_of.ModuleItems c) k d l b h = of (is_module_item k) c
  where
    of : (u v : Bool) → (good_at (slot.Fixed (cond u at.ModuleItem (cond v (at.PrologueItem false) (at.StatementListItem false)))) && true) ≡ true
    of true v = refl
    of false true = refl
    of false false = refl
step_good tail_of.Specifiers k d true b h = refl
step_good tail_of.Specifiers k d false b h = refl

before_good : (s : Slot) (o : Option (List Slot)) → good s ≡ true → given_good o ≡ true → given_good (before s o) ≡ true
before_good s None h e = refl
before_good s (Some xs) h e = and_from _ _ h e

going_good : (f : tails.ListSlots → Option (List Slot)) (o : Option (slots.Slot × tails.ListSlots)) → good_step o ≡ true → ((t : tails.ListSlots) → good_tail t ≡ true → given_good (f t) ≡ true) → given_good (going f o) ≡ true
going_good f None h e = refl
going_good f (Some x) h e = let p = and_parts _ _ h in before_good (slot_of x.0) (f x.1) p.0 (e x.1 p.1)

or_none : (u : Bool) (o : Option (List Slot)) → given_good o ≡ true → given_good (cond u (Some []) o) ≡ true
or_none true o h = refl
or_none false o h = h

if_good : (u : Bool) (o : Option (List Slot)) → given_good o ≡ true → given_good (cond u o None) ≡ true
if_good true o h = h
if_good false o h = refl

tail_good : (t : tails.ListSlots) (ps : Parts) → good_tail t ≡ true → given_good (tail_slots t ps) ≡ true
tail_good t none h = if_good (may_end t) (Some []) refl
tail_good t (gap ps) h = or_none (is_over t) _ (if_good (skips_gap t) (tail_slots t ps) (tail_good t ps h))
tail_good t (part n ps) h = or_none (is_over t) _ (going_good (λ u. tail_slots u ps) (part_of_tail t n ps) (step_good t (kind_of n) (flags_of n).directive (Rattle.language.specs.Pieces.is_none ps) (is_before_last ps) h) (λ u e. tail_good u ps e))

front_good : (f : FixedSlots) (o : Option (List Slot)) → good_front f ≡ true → given_good o ≡ true → given_good (front_before f o) ≡ true
front_good Zero o h e = e
front_good (One a) o h e = before_good (slot_of a) o h e
front_good (Two a b) o h e =
    let p = and_parts (good_at a) (good_at b) h in
    before_good (slot_of a) (before (slot_of b) o) p.0 (before_good (slot_of b) o p.1 e)
front_good (Three a b c) o h e =
    let p = and_parts (good_at a) (good_at b && good_at c) h in
    let q = and_parts (good_at b) (good_at c) p.1 in
    before_good (slot_of a) (before (slot_of b) (before (slot_of c) o)) p.0 (before_good (slot_of b) (before (slot_of c) o) q.0 (before_good (slot_of c) o q.1 e))
front_good (Four a b c d) o h e =
    let p = and_parts (good_at a) (good_at b && (good_at c && good_at d)) h in
    let q = and_parts (good_at b) (good_at c && good_at d) p.1 in
    let r = and_parts (good_at c) (good_at d) q.1 in
    before_good (slot_of a) (before (slot_of b) (before (slot_of c) (before (slot_of d) o))) p.0
    (before_good (slot_of b) (before (slot_of c) (before (slot_of d) o)) q.0 (before_good (slot_of c) (before (slot_of d) o) r.0 (before_good (slot_of d) o r.1 e)))

-- Of an outline

pub data Good : Option Outline → Type 0 where
  nothing : Good None
  outlined : {x : Outline} → good_front x.front ≡ true → good_tail x.tail ≡ true → Good (Some x)

pub slots_good : (x : Outline) (ps : Parts) → Good (Some x) → given_good (outline_slots x ps) ≡ true
slots_good x ps (outlined h e) = front_good x.front (tail_slots x.tail (parts_after x.from ps)) h (tail_good x.tail (parts_after x.from ps) e)

either : (u : Bool) (x y : Option Outline) → Good x → Good y → Good (cond u x y)
either true x y h e = h
either false x y h e = e

pub given : (u : Bool) (x : Option Outline) → Good x → Good (cond u x None)
given u x h = either u x None h nothing

pub unless : (u : Bool) (x : Option Outline) → Good x → Good (cond u None x)
unless u x h = either u None x nothing h

named_function_good : (e : PartAt) → Good (expressions.named_function e)
named_function_good Past = nothing
named_function_good Gap = outlined refl refl
named_function_good (Part k) = outlined refl refl

pub function_good : (x : Form) (e : PartAt) → Good (expressions.function_outline x e)
function_good x e = given (is_function_form x) _ (named_function_good e)

pub class_good : (a b : PartAt) → Good (expressions.class_outline a b)
class_good Past b = nothing
class_good Gap Past = nothing
class_good Gap Gap = outlined refl refl
class_good Gap (Part k) = outlined refl refl
class_good (Part j) Past = nothing
class_good (Part j) Gap = outlined refl refl
class_good (Part j) (Part k) = outlined refl refl

arrow_good : (u : Bool) → good_at (cond u (slot.Tail Assignment NoBrace) (slot.Fixed at.Body)) ≡ true
arrow_good true = refl
arrow_good false = refl

selected_good : (g : Flags) (p : Kind) → good_at (expressions.selected g p) ≡ true
selected_good g p = of g.computed (is_private p)
  where
    of : (u v : Bool) → good_at (slot.Fixed (cond u whole_at (cond v at.PrivateName at.IdentifierName))) ≡ true
    of true v = refl
    of false true = refl
    of false false = refl

called_good : (u : Bool) → good_at (cond u (slot.Fixed at.Super) (slot.Lead Call)) ≡ true
called_good true = refl
called_good false = refl

member_good : (g : Flags) (k p : Kind) → Good (expressions.member_outline g k p)
member_good g k p = unless g.optional _ (either (is_super k) _ _ (outlined (selected_good g kind.Identifier) refl) (outlined (selected_good g p) refl))

call_good : (g : Flags) (k : Kind) → Good (expressions.call_outline g k)
call_good g k = unless g.optional _ (outlined (called_good (is_super k)) refl)

updated_good : (u : Bool) → good_at (cond u (slot.Fixed (at.Expression LeftHandSide true Any)) (slot.Lead LeftHandSide)) ≡ true
updated_good true = refl
updated_good false = refl

update_good : (w : List ℕ) (g : Flags) (k : Kind) → Good (expressions.update_outline w g k)
update_good w g k = given _ _ (outlined (updated_good g.prefix) refl)

operation_binds : (o : Operator) (l : Bool) (z q : Rank) → operation o ≡ Binds l z q → o ≡ op_binary l z q
operation_binds (op_binary l z q) m y x h = let a : l ≡ m = cc in let b : z ≡ y = cc in let c : q ≡ x = cc in (λ j. op_binary (a j) (b j) (c j))
operation_binds _ l z q h = absurd (cc)

joined_good : (w : List ℕ) (l : Bool) (z q : Rank) → operation_at w ≡ Binds l z q → Good (Some (expressions.joined_outline w z q))
unfolding operation_at
joined_good w l z q h =
    let b : Binding z q = binding w (operation_binds (operator_of w) l z q h) in
    let most = b.most in
    let rises = b.rises.0 in
    let loose : nat_le (precedence z) 18 ≡ true = grind (arith, nat_tests) in
    let looser : nat_le (precedence q) 18 ≡ true = grind (arith, nat_tests) in
    outlined (and_from _ _ loose (and_from _ _ looser refl)) refl

binary_good : (w : List ℕ) (o : Operation) → operation_at w ≡ o → Good (expressions.binary_outline w o)
binary_good w (Binds false z q) h = joined_good w false z q h
binary_good w (Binds true z q) h = nothing
binary_good w Powers h = outlined refl refl
binary_good w _ h = nothing

binary_by_good : (w : List ℕ) (k : Kind) → Good (expressions.binary_by w k)
binary_by_good w k = either (is_private k) _ _ (given (is w "in") _ (outlined refl refl)) (binary_good w (operation_at w) refl)

logical_good : (w : List ℕ) (o : Operation) → operation_at w ≡ o → Good (expressions.logical_outline w o)
logical_good w (Binds true z q) h = joined_good w true z q h
logical_good w (Binds false z q) h = nothing
logical_good w _ h = nothing

assignment_good : (u v w : Bool) → Good (cond u (cond v (expressions.assigned (slot.Lead LeftHandSide)) (cond w (expressions.assigned slot.LeadPattern) None)) None)
assignment_good true true w = outlined refl refl
assignment_good true false true = outlined refl refl
assignment_good true false false = nothing
assignment_good false v w = nothing

yield_good : (x : Form) (a b : PartAt) → Good (expressions.yield_outline x a b)
yield_good form.Init (Part k) Past = outlined refl refl
yield_good form.Init Gap Past = outlined refl refl
yield_good form.Generator (Part k) Past = outlined refl refl
yield_good _ _ _ = nothing

operation_good : (k : Kind) (w : List ℕ) (g : Flags) (a : Around) → Good (expressions.operation_outline k w g a)
operation_good kind.UpdateExpression w g a = update_good w g (kind_at a.first)
operation_good kind.UnaryExpression w g a = given _ _ (outlined refl refl)
operation_good kind.AwaitExpression w g a = outlined refl refl
operation_good kind.BinaryExpression w g a = binary_by_good w (kind_at a.first)
operation_good kind.LogicalExpression w g a = logical_good w (operation_at w) refl
operation_good kind.ConditionalExpression w g a = outlined refl refl
operation_good kind.YieldExpression w g a = yield_good g.form a.first a.second
operation_good kind.AssignmentExpression w g a = assignment_good (is_assignment w) (is_target (kind_at a.first)) (is w "=" && is_pattern (kind_at a.first))
operation_good kind.SequenceExpression w g a = unless _ _ (outlined refl refl)
operation_good _ w g a = nothing

reference_good : (k : Kind) (w : List ℕ) (g : Flags) (a : Around) → Good (expressions.reference_outline k w g a)
reference_good kind.TaggedTemplateExpression w g a = outlined refl refl
reference_good kind.MemberExpression w g a = member_good g (kind_at a.first) (kind_at a.second)
reference_good kind.CallExpression w g a = call_good g (kind_at a.first)
reference_good kind.NewExpression w g a = outlined refl refl
reference_good kind.MetaProperty w g a = given _ _ (outlined refl refl)
reference_good kind.ImportExpression w g a = outlined refl refl
reference_good kind.ChainExpression w g a = given _ _ (outlined refl refl)
reference_good k w g a = operation_good k w g a

definition_good : (k : Kind) (w : List ℕ) (g : Flags) (a : Around) → Good (expressions.definition_outline k w g a)
definition_good kind.FunctionExpression w g a = function_good g.form a.first
definition_good kind.ClassExpression w g a = class_good a.first a.second
definition_good kind.ArrowFunctionExpression w g a = given (expressions.is_arrow_form g.form) _ (outlined refl (arrow_good g.expression))
definition_good k w g a = reference_good k w g a

pub expression_good : (k : Kind) (w : List ℕ) (g : Flags) (a : Around) → Good (expressions.expression_outline k w g a)
expression_good kind.Identifier w g a = unless _ _ (outlined refl refl)
expression_good kind.Literal w g a = unless _ _ (outlined refl refl)
expression_good kind.ThisExpression w g a = outlined refl refl
expression_good kind.ArrayExpression w g a = outlined refl refl
expression_good kind.ObjectExpression w g a = outlined refl refl
expression_good kind.TemplateLiteral w g a = outlined refl refl
expression_good k w g a = definition_good k w g a

pub leaf_good : (b : Bool) → Good (others.leaf_if b)
leaf_good b = given b _ (outlined refl refl)

pub name_good : (k : Kind) (w : List ℕ) → Good (others.name_outline k w)
name_good kind.Identifier w = leaf_good _
name_good _ w = nothing

pub key_good : (k : Kind) (w : List ℕ) → Good (others.key_outline k w)
key_good kind.Identifier w = outlined refl refl
key_good kind.Literal w = leaf_good _
key_good _ w = nothing

pub quoted_good : (k : Kind) (w : List ℕ) → Good (others.quoted_outline k w)
quoted_good kind.Literal w = leaf_good _
quoted_good _ w = nothing

pub quasi_good : (k : Kind) → Good (others.quasi_outline k)
quasi_good kind.TemplateLiteral = outlined refl refl
quasi_good _ = nothing

pub spread_good : (k : Kind) → Good (others.spread_outline k)
spread_good kind.SpreadElement = outlined refl refl
spread_good _ = nothing

keyed_good : (b : Bool) (a : Position) → good_at (slot.Fixed a) ≡ true → Good (others.keyed_outline b a)
keyed_good true a h = outlined (and_from _ _ refl h) refl
keyed_good false a h = outlined (and_from _ _ refl h) refl

form_good : (b : Bool) (x y : Form) → Good (others.form_outline b x y)
form_good b form.Init y = keyed_good b _ refl
form_good b form.Method y = given (is_function_form y) _ (keyed_good b _ refl)
form_good b form.Get y = keyed_good b _ refl
form_good b form.Set y = keyed_good b _ refl
form_good b form.Shorthand y = unless b _ (outlined refl refl)
form_good b _ y = nothing

pub property_good : (k : Kind) (g : Flags) (y : Form) → Good (others.property_outline k g y)
property_good kind.Property g y = form_good g.computed g.form y
property_good _ g y = nothing

keyed_at_good : (b : Bool) (o : Option Position) → good_role o ≡ true → Good (others.keyed_at b o)
keyed_at_good b None h = nothing
keyed_at_good b (Some a) h = keyed_good b a h

shorthand_good : (b : Bool) (k : Kind) → Good (others.shorthand_outline b k)
shorthand_good b kind.Identifier = unless b _ (outlined refl refl)
shorthand_good b kind.AssignmentPattern = unless b _ (outlined refl refl)
shorthand_good b _ = nothing

pattern_form_good : (b c : Bool) (x : Form) (k : Kind) → Good (others.pattern_form_outline b c x k)
pattern_form_good b c form.Init k = keyed_at_good c (default_at b k) (default_good b k)
pattern_form_good b c form.Shorthand k = shorthand_good c k
pattern_form_good b c _ k = nothing

pub pattern_property_good : (b : Bool) (k : Kind) (g : Flags) (j : Kind) → Good (others.pattern_property_outline b k g j)
pattern_property_good b kind.Property g j = pattern_form_good b g.computed g.form j
pattern_property_good b _ g j = nothing

pub pattern_good : (b : Bool) (k : Kind) → Good (others.pattern_outline b k)
pattern_good b kind.ArrayPattern = outlined refl refl
pattern_good b kind.ObjectPattern = outlined refl refl
pattern_good b _ = nothing

defaulted_good : (o : Option Position) → good_role o ≡ true → Good (others.defaulted o)
defaulted_good None h = nothing
defaulted_good (Some a) h = outlined (and_from _ _ h refl) refl

pub element_outline_good : (b : Bool) (k j : Kind) → Good (others.element_outline b k j)
element_outline_good b kind.AssignmentPattern j = defaulted_good (bound_at b j) (bound_good b j)
element_outline_good b _ j = nothing

one_at_good : (o : Option Position) → good_role o ≡ true → Good (others.one_at o)
one_at_good None h = nothing
one_at_good (Some a) h = outlined h refl

pub rest_good : (b o : Bool) (k j : Kind) → Good (others.rest_outline b o k j)
rest_good b o kind.RestElement j = unless _ _ (one_at_good (bound_at b j) (bound_good b j))
rest_good b o _ j = nothing

linked_good : (b o : Bool) (x y : Outline) → Good (Some x) → Good (Some y) → Good (others.linked_by b o x y)
linked_good b o x y h e = either b _ _ h (given o _ e)

pub spine_good : (k : Kind) (g : Flags) (b : Bool) (p : Kind) → Good (others.spine_outline k g b p)
spine_good kind.MemberExpression g b p = linked_good b g.optional _ _ (outlined (selected_good g p) refl) (outlined (selected_good g p) refl)
spine_good kind.CallExpression g b p = linked_good b g.optional _ _ (outlined refl refl) (outlined refl refl)
spine_good _ g b p = nothing

pub class_body_good : (k : Kind) → Good (others.class_body_outline k)
class_body_good kind.ClassBody = outlined refl refl
class_body_good _ = nothing

getter_good : (a b c : PartAt) → Good (others.getter_outline a b c)
getter_good Gap (Part k) Past = outlined refl refl
getter_good _ _ _ = nothing

set_good : (o : Option Position) → good_role o ≡ true → Good (others.set_at o)
set_good None h = nothing
set_good (Some a) h = outlined (and_from _ _ h refl) refl

setter_good : (a b c d : PartAt) → Good (others.setter_outline a b c d)
setter_good Gap (Part k) (Part j) Past = unless (is_rest k) _ (set_good (default_at true k) (default_good true k))
setter_good _ _ _ _ = nothing

plain_method_good : (a : PartAt) → Good (others.plain_method_outline a)
plain_method_good Gap = outlined refl refl
plain_method_good _ = nothing

form_method_good : (x : Form) (a : Around) → Good (others.form_method_outline x a)
form_method_good form.Get a = getter_good a.first a.second a.third
form_method_good form.Set a = setter_good a.first a.second a.third a.fourth
form_method_good _ a = plain_method_good a.first

pub method_good : (x : Form) (k : Kind) (g : Flags) (a : Around) → Good (others.method_outline x k g a)
method_good x kind.FunctionExpression g a = given (is_function_at x g.form) _ (form_method_good x a)
method_good x _ g a = nothing

class_key_good : (b : Bool) (k : Kind) → good_at (slot.Fixed (others.class_key b k)) ≡ true
class_key_good b k = of b (is_private k)
  where
    of : (u v : Bool) → good_at (slot.Fixed (cond u assignment_at (cond v at.PrivateName at.PropertyName))) ≡ true
    of true v = refl
    of false true = refl
    of false false = refl

class_keyed_good : (b : Bool) (k : Kind) (a : Position) → good_at (slot.Fixed a) ≡ true → Good (others.class_keyed b k a)
class_keyed_good b k a h = outlined (and_from _ _ (class_key_good b k) h) refl

method_keyed_good : (b : Bool) (x y : Form) (k : Kind) → Good (others.method_keyed b x y k)
method_keyed_good b form.Get y k = class_keyed_good b k _ refl
method_keyed_good b form.Set y k = class_keyed_good b k _ refl
method_keyed_good b _ y k = given (is_function_form y) _ (class_keyed_good b k _ refl)

field_good : (b : Bool) (x y z : PartAt) → Good (others.field_outline b x y z)
field_good b (Part k) Gap Past = outlined (class_key_good b k) refl
field_good b (Part k) (Part j) Past = class_keyed_good b k _ refl
field_good b _ _ _ = nothing

pub class_member_good : (k : Kind) (g : Flags) (a : Around) → Good (others.member_outline k g a)
class_member_good kind.MethodDefinition g a = given _ _ (method_keyed_good g.computed g.form a.second_form (kind_at a.first))
class_member_good kind.PropertyDefinition g a = field_good g.computed a.first a.second a.third
class_member_good kind.StaticBlock g a = outlined refl refl
class_member_good _ g a = nothing
