-- The outlines of nodes that are no expressions and no statements: names, keys, templates, properties, patterns, chains, members,
-- functions of methods.
use Rattle.std.specs.Prelude.{ℕ, Bool, true, false, not, cond, ◌&&◌, ◌||◌, List, Option, Some, None}
use Rattle.tokens.specs.declared.token.TokenClass.{TokenClass}
use Rattle.tokens.specs.declared.token.TokenClass.TheVariants as class
use Rattle.language.specs.declared.Rank.TheVariants.{Call, Primary}
use Rattle.tree.specs.declared.kind.Kind.{Kind}
use Rattle.tree.specs.declared.kind.Kind.TheVariants as kind
use Rattle.tree.specs.declared.kind.Form.{Form}
use Rattle.tree.specs.declared.kind.Form.TheVariants as form
use Rattle.tree.specs.declared.kind.Flags.{Flags}
use Rattle.language.specs.Vocabulary.{is, is_reserved, is_string, literal_class, is_rest, is_pattern, is_identifier, is_private}
use Rattle.language.specs.Expressions.{method_of}
use Rattle.language.specs.Statements.{is_string_literal}
use Rattle.language.specs.Grammar.{is_function_at}
use Rattle.language.specs.Strings.{literal_units}
use Rattle.spellings.specs.declared.parts.PartAt.{PartAt}
use Rattle.spellings.specs.declared.parts.PartAt.TheVariants.{Past, Gap, Part}
use Rattle.spelling_table.specs.declared.position.Position.{Position}
use Rattle.spelling_table.specs.declared.position.Position.TheVariants as at
use Rattle.spelling_table.specs.declared.position.Slot.{Slot}
use Rattle.spelling_table.specs.declared.position.Slot.TheVariants.{Fixed, Lead, LeadSpine}
use Rattle.spelling_table.specs.declared.outline.FixedSlots.TheVariants.{Zero, One, Two}
use Rattle.spelling_table.specs.declared.outline.ListSlots.TheVariants as tail
use Rattle.spelling_table.specs.declared.outline.Outline.{Outline}
use Rattle.spelling_table.specs.Outlines.{assignment_at, bound_at, default_at, leaf, fronted, lined}
use Rattle.tree.specs.Uses.{is_function_form, is_init}
use Rattle.spellings.specs.Expressions.{Around, kind_at, only_if, selected}
use Rattle.spelling_table.specs.Productions.{opens_with_brace, key_slot, call_link}

abbrev pub leaf_if : Bool → Option Outline
leaf_if b = cond b (Some (leaf Primary)) None

abbrev pub is_key_class : TokenClass → Bool
is_key_class class.IdentifierName = false
is_key_class class.RegularExpressionLiteral = false
is_key_class _ = true

abbrev pub name_outline : Kind → List ℕ → Option Outline
name_outline kind.Identifier w = leaf_if (not (is_reserved w))
name_outline _ w = None

abbrev pub is_chunk : Kind → Bool
is_chunk kind.TemplateElement = true
is_chunk _ = false

abbrev pub key_outline : Kind → List ℕ → Option Outline
key_outline kind.Identifier w = Some (leaf Primary)
key_outline kind.Literal w = leaf_if (is_key_class (literal_class w))
key_outline _ w = None

abbrev pub quoted_outline : Kind → List ℕ → Option Outline
quoted_outline kind.Literal w = leaf_if (is_string (literal_class w))
quoted_outline _ w = None

abbrev pub quasi_outline : Kind → Option Outline
quasi_outline kind.TemplateLiteral = Some (lined Primary Zero (tail.Chunks true) 0)
quasi_outline _ = None

abbrev pub spread_outline : Kind → Option Outline
spread_outline kind.SpreadElement = Some (fronted Primary (One (Fixed assignment_at)))
spread_outline _ = None

abbrev pub keyed_outline : Bool → Position → Option Outline
keyed_outline b a = Some (fronted Primary (Two (key_slot b) (Fixed a)))

abbrev pub echo_outline : Bool → Position → Option Outline
echo_outline b a = cond b None (Some (fronted Primary (Two (Fixed at.ShorthandKey) (Fixed a))))

abbrev pub form_outline : Bool → Form → Form → Option Outline
form_outline b form.Init x = keyed_outline b assignment_at
form_outline b form.Method x = only_if (is_function_form x) (keyed_outline b (at.Method (method_of x)))
form_outline b form.Get x = keyed_outline b (at.Method form.Get)
form_outline b form.Set x = keyed_outline b (at.Method form.Set)
form_outline b form.Shorthand x = echo_outline b at.Name
form_outline b _ x = None

-- by the form of the value too
abbrev pub property_outline : Kind → Flags → Form → Option Outline
property_outline kind.Property g x = form_outline g.computed g.form x
property_outline _ g x = None

abbrev pub keyed_at : Bool → Option Position → Option Outline
keyed_at b None = None
keyed_at b (Some a) = keyed_outline b a

abbrev pub shorthand_outline : Bool → Kind → Option Outline
shorthand_outline b kind.Identifier = echo_outline b at.Name
shorthand_outline b kind.AssignmentPattern = echo_outline b (at.Element true)
shorthand_outline b _ = None

abbrev pub pattern_form_outline : Bool → Bool → Form → Kind → Option Outline
pattern_form_outline b c form.Init k = keyed_at c (default_at b k)
pattern_form_outline b c form.Shorthand k = shorthand_outline c k
pattern_form_outline b c _ k = None

abbrev pub pattern_property_outline : Bool → Kind → Flags → Kind → Option Outline
pattern_property_outline b kind.Property g k = pattern_form_outline b g.computed g.form k
pattern_property_outline b _ g k = None

abbrev pub pattern_outline : Bool → Kind → Option Outline
pattern_outline b kind.ArrayPattern = Some (lined Primary Zero (tail.PatternElements b) 0)
pattern_outline b kind.ObjectPattern = Some (opens_with_brace (lined Primary Zero (tail.PatternProperties b) 0))
pattern_outline b _ = None

abbrev pub defaulted : Option Position → Option Outline
defaulted None = None
defaulted (Some a) = Some (fronted Primary (Two (Fixed a) (Fixed assignment_at)))

abbrev pub element_outline : Bool → Kind → Kind → Option Outline
element_outline b kind.AssignmentPattern k = defaulted (bound_at b k)
element_outline b _ k = None

abbrev pub one_at : Option Position → Option Outline
one_at None = None
one_at (Some a) = Some (fronted Primary (One (Fixed a)))

abbrev pub rest_outline : Bool → Bool → Kind → Kind → Option Outline
rest_outline b o kind.RestElement k = cond (o && is_pattern k) None (one_at (bound_at b k))
rest_outline b o _ k = None

-- a further part of a chain below, or its base
abbrev pub linked_by : Bool → Bool → Outline → Outline → Option Outline
linked_by b o x y = cond b (Some x) (cond o (Some y) None)

abbrev pub member_link : Slot → Flags → Kind → Outline
member_link x g p = fronted Primary (Two x (selected g p))

-- by the kind of the second part, a member's property
abbrev pub spine_outline : Kind → Flags → Bool → Kind → Option Outline
spine_outline kind.MemberExpression g b p = linked_by b g.optional (member_link LeadSpine g p) (member_link (Lead Call) g p)
spine_outline kind.CallExpression g b p = linked_by b g.optional (call_link LeadSpine) (call_link (Lead Call))
spine_outline _ g b p = None

abbrev pub class_body_outline : Kind → Option Outline
class_body_outline kind.ClassBody = Some (lined Primary Zero (tail.Each (Fixed at.Member)) 0)
class_body_outline _ = None

-- the function of a getter, a setter, another method, by what stands where among its parts
abbrev pub getter_outline : PartAt → PartAt → PartAt → Option Outline
getter_outline Gap (Part k) Past = Some (fronted Primary (One (Fixed at.Body)))
getter_outline _ _ _ = None

abbrev pub set_at : Option Position → Option Outline
set_at None = None
set_at (Some a) = Some (fronted Primary (Two (Fixed a) (Fixed at.Body)))

abbrev pub setter_outline : PartAt → PartAt → PartAt → PartAt → Option Outline
setter_outline Gap (Part k) (Part j) Past = cond (is_rest k) None (set_at (default_at true k))
setter_outline _ _ _ _ = None

abbrev pub plain_method_outline : PartAt → Option Outline
plain_method_outline Gap = Some (lined Primary Zero (tail.Parameters (Fixed at.Body)) 1)
plain_method_outline _ = None

abbrev pub form_method_outline : Form → Around → Option Outline
form_method_outline form.Get a = getter_outline a.first a.second a.third
form_method_outline form.Set a = setter_outline a.first a.second a.third a.fourth
form_method_outline _ a = plain_method_outline a.first

abbrev pub method_outline : Form → Kind → Flags → Around → Option Outline
method_outline x kind.FunctionExpression g a = only_if (is_function_at x g.form) (form_method_outline x a)
method_outline x _ g a = None

-- the first part of a member is a key with the value `constructor`
abbrev pub names_constructor : Kind → List ℕ → Bool
names_constructor k w = (is_identifier k && is w "constructor") || (is_string_literal k w && is (literal_units w) "constructor")

abbrev pub is_constructor : Flags → Kind → List ℕ → Bool
is_constructor g k w = not g.computed && not g.is_static && names_constructor k w

-- a key of a class, of this kind: in brackets, a private name or another
abbrev pub class_key : Bool → Kind → Position
class_key b k = cond b assignment_at (cond (is_private k) at.PrivateName at.PropertyName)

abbrev pub class_keyed : Bool → Kind → Position → Option Outline
class_keyed b k a = Some (fronted Primary (Two (Fixed (class_key b k)) (Fixed a)))

-- a member's key and function, by its form, that of the function, and the key's kind
abbrev pub method_keyed : Bool → Form → Form → Kind → Option Outline
method_keyed b form.Get x k = class_keyed b k (at.Method form.Get)
method_keyed b form.Set x k = class_keyed b k (at.Method form.Set)
method_keyed b _ x k = only_if (is_function_form x) (class_keyed b k (at.Method (method_of x)))

-- a member may have this form, by whether its key makes it the constructor
abbrev pub fits_form : Bool → Form → Bool
fits_form c form.Constructor = c
fits_form c form.Method = not c
fits_form c form.Get = true
fits_form c form.Set = true
fits_form c _ = false

-- a field: its key, and what stands at the place of its value
abbrev pub field_outline : Bool → PartAt → PartAt → PartAt → Option Outline
field_outline b (Part k) Gap Past = Some (fronted Primary (One (Fixed (class_key b k))))
field_outline b (Part k) (Part j) Past = class_keyed b k assignment_at
field_outline b _ _ _ = None

abbrev pub method_definition_outline : Flags → Around → Option Outline
method_definition_outline g a =
    only_if (fits_form (is_constructor g (kind_at a.first) a.first_text && is_init a.second_form) g.form) (method_keyed g.computed g.form a.second_form (kind_at a.first))

abbrev pub member_outline : Kind → Flags → Around → Option Outline
member_outline kind.MethodDefinition g a = method_definition_outline g a
member_outline kind.PropertyDefinition g a = field_outline g.computed a.first a.second a.third
member_outline kind.StaticBlock g a = Some (lined Primary Zero (tail.Each (Fixed (at.StatementListItem false))) 0)
member_outline _ g a = None

-- a private name
abbrev pub private_outline : Kind → Option Outline
private_outline k = leaf_if (is_private k)
