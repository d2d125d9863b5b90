-- Where the parts of a node stand: none at the symbol New, and with In what stands at a tighter one than a call; where the node's own start
-- is Any, patterns and parts of chains too.
use Rattle.std.proofs.Common.{◌≡◌, ℕ, Bool, true, false, cond, List, [], ◌∷◌, Option, Some, None, refl, sym, ap, ◌∙◌, subst}
use Rattle.std.specs.Prelude.{◌&&◌, ◌||◌, map, option_map}
use Rattle.std.proofs.lemmas.Bool.{and_parts, and_from, false≢true}
use Rattle.tree.specs.Tree.{Tree, kind_of, text_of, flags_of, parts_of}
use Rattle.tree.specs.Uses.{is_lean, is_empty}
use Rattle.tree.specs.declared.kind.Kind.{Kind}
use Rattle.tree.specs.declared.kind.Kind.TheVariants as kind
use Rattle.tree.specs.declared.kind.Flags.{Flags}
use Rattle.tree.specs.declared.kind.Form.{Form}
use Rattle.tree.specs.declared.kind.Form.TheVariants as form
use Rattle.language.specs.declared.Rank.{Rank}
use Rattle.language.specs.declared.Rank.TheVariants.{Expression, Assignment, Call, Member, Primary}
use Rattle.language.specs.declared.Start.{Start}
use Rattle.language.specs.declared.Start.TheVariants.{Any}
use Rattle.language.specs.Vocabulary.{is, is_identifier}
use Rattle.language.specs.Pieces.{Role, expr, PieceOf, Slot, fixed, left, lead, tail, callee, lead_chain, lead_pattern, settle, is_tight}
use Rattle.language.specs.Statements.{is_declaration}
use Rattle.language.specs.Grammar.{ways, own_rank, own_in, own_start}
use Rattle.language.specs.RowPositions.{first_roles}
use Rattle.spellings.specs.declared.parts.PartAt.{PartAt}
use Rattle.spellings.specs.declared.parts.PartAt.TheVariants.{Past, Gap, Part}
use Rattle.spelling_table.specs.declared.position.Position.{Position}
use Rattle.spelling_table.specs.declared.position.Position.TheVariants as at
use Rattle.spelling_table.specs.declared.position.Slot as slots
use Rattle.spelling_table.specs.declared.position.Slot.TheVariants as slot
use Rattle.spelling_table.specs.declared.outline.FixedSlots.{FixedSlots}
use Rattle.spelling_table.specs.declared.outline.FixedSlots.TheVariants.{Zero, One, Two, Three, Four}
use Rattle.spelling_table.specs.declared.outline.ListSlots.TheVariants as tail_of
use Rattle.spelling_table.specs.declared.outline.Outline.{Outline}
use Rattle.spelling_table.specs.Outlines.{bound_at, outline_slots, lined}
use Rattle.spellings.specs.Entries.{around}
use Rattle.spellings.specs.Expressions as expressions
use Rattle.spellings.specs.Expressions.{Around, kind_at}
use Rattle.spellings.specs.Statements as statements
use Rattle.spellings.specs.Modules as modules
use Rattle.spellings.specs.Positions.{outline_by, outline_at}
use Rattle.spelling_table.specs.Requirements.{fits_outline}
use Rattle.spellings.specs.Spelled.{outlined_roles, roles_by, Verdict}
use Rattle.spellings.proofs.Ways.{position_ways}
use Rattle.spellings.proofs.Wherever.{position_of, role-position}
pub use Rattle.spellings.proofs.ExpressionSlots.{is_plain, is_wide, is_lawful}
use Rattle.spellings.proofs.ExpressionSlots.{is_loose, is_no_statement, good, all_good, given_good, good_at, good_role, good_front, good_some_front, bound_good, Good, slots_good, given, unless, function_good, class_good, expression_good, leaf_good, name_good, key_good, quoted_good, quasi_good, spread_good, property_good, pattern_property_good, pattern_good, element_outline_good, rest_good, spine_good, class_body_good, method_good, class_member_good, nothing, outlined}

-- Of a statement

declaration_good : (b : Bool) → Good (statements.declaration_outline b)
declaration_good b = given b _ (outlined refl refl)

if_statement_good : (r d : Bool) (a b c e : PartAt) → Good (statements.if_outline r d a b c e)
if_statement_good r d (Part i) (Part j) Gap Past = outlined refl refl
if_statement_good r d (Part i) (Part j) (Part k) Past = unless d _ (outlined refl refl)
if_statement_good r d _ _ _ _ = nothing

of_front_good : (o : Option FixedSlots) → good_some_front o ≡ true → Good (statements.of_front o)
of_front_good None h = nothing
of_front_good (Some f) h = outlined h refl

placed_good : (x : slots.Slot) (f : FixedSlots) → good_at x ≡ true → good_front f ≡ true → good_front (statements.placed_before x f) ≡ true
placed_good x Zero h e = h
placed_good x (One a) h e = and_from _ _ h e
placed_good x (Two a b) h e = and_from _ _ h e
placed_good x (Three a b c) h e = and_from _ _ h e
placed_good x (Four a b c d) h e =
    let p = and_parts (good_at a) (good_at b && (good_at c && good_at d)) e in
    let q = and_parts (good_at b) (good_at c && good_at d) p.1 in
    and_from _ _ h (and_from _ _ p.0 (and_from _ _ q.0 (and_parts (good_at c) (good_at d) q.1).0))

given_before_good : (a : PartAt) (x : slots.Slot) (o : Option FixedSlots) → good_at x ≡ true → good_some_front o ≡ true → good_some_front (statements.given_before a x o) ≡ true
given_before_good Past x o h e = refl
given_before_good Gap x o h e = e
given_before_good (Part k) x None h e = refl
given_before_good (Part k) x (Some f) h e = placed_good x f h e

init_good : (k : Kind) → good_at (statements.init_at k) ≡ true
init_good k = of (is_declaration k)
  where
    of : (u : Bool) → good_at (slot.Fixed (cond u (at.ForDeclaration true) (at.Expression Expression false Any))) ≡ true
    of true = refl
    of false = refl

for_good : (r : Bool) (a b c : PartAt) → Good (statements.for_outline r a b c)
for_good r a b c = of_front_good _ (given_before_good a _ _ (init_good (kind_at a)) (given_before_good b _ _ refl (given_before_good c _ _ refl refl)))

left_good : (k : Kind) → good_role (statements.left_at k) ≡ true
left_good k = of (is_declaration k)
  where
    of : (u : Bool) → good_role (cond u (Some (at.ForDeclaration false)) (bound_at false k)) ≡ true
    of true = refl
    of false = bound_good false k

each_good : (r : Bool) (o : Option Position) (b : Position) → good_role o ≡ true → good_at (slot.Fixed b) ≡ true → Good (statements.each_outline r o b)
each_good r None b h e = nothing
each_good r (Some a) b h e = outlined (and_from _ _ h (and_from _ _ e refl)) refl

word_good : (a : PartAt) (x : Position) → good_at (slot.Fixed x) ≡ true → Good (statements.word_outline a x)
word_good a x h = of_front_good _ (given_before_good a _ _ h refl)

try_good : (r : Bool) (a b c d : PartAt) → Good (statements.try_outline r a b c d)
try_good r (Part i) (Part j) Gap Past = outlined refl refl
try_good r (Part i) (Part j) (Part k) Past = outlined refl refl
try_good r (Part i) Gap (Part k) Past = outlined refl refl
try_good r _ _ _ _ = nothing

loop_good : (r : Bool) (k : Kind) (g : Flags) (a : Around) → Good (statements.loop_outline r k g a)
loop_good r kind.DoWhileStatement g a = outlined refl refl
loop_good r kind.WhileStatement g a = outlined refl refl
loop_good r kind.ForStatement g a = for_good r a.first a.second a.third
loop_good r kind.ForInStatement g a = each_good r _ _ (left_good (kind_at a.first)) refl
loop_good r kind.ForOfStatement g a = given (expressions.is_arrow_form g.form) _ (each_good r _ _ (left_good (kind_at a.first)) refl)
loop_good r _ g a = nothing

branch_good : (r : Bool) (k : Kind) (g : Flags) (a : Around) → Good (statements.branch_outline r k g a)
branch_good r kind.BlockStatement g a = outlined refl refl
branch_good r kind.IfStatement g a = if_statement_good r a.dangling a.first a.second a.third a.fourth
branch_good r kind.LabeledStatement g a = outlined refl refl
branch_good r kind.SwitchStatement g a = unless _ _ (outlined refl refl)
branch_good r kind.TryStatement g a = try_good r a.first a.second a.third a.fourth
branch_good r k g a = loop_good r k g a

statement_good : (r : Bool) (k : Kind) (w : List ℕ) (g : Flags) (a : Around) → Good (statements.statement_outline r k w g a)
statement_good r kind.VariableDeclaration w g a = declaration_good _
statement_good r kind.EmptyStatement w g a = outlined refl refl
statement_good r kind.ExpressionStatement w g a = unless g.directive _ (outlined refl refl)
statement_good r kind.ContinueStatement w g a = word_good a.first _ refl
statement_good r kind.BreakStatement w g a = word_good a.first _ refl
statement_good r kind.ReturnStatement w g a = given r _ (word_good a.first _ refl)
statement_good r kind.ThrowStatement w g a = outlined refl refl
statement_good r kind.DebuggerStatement w g a = outlined refl refl
statement_good r k w g a = branch_good r k g a

named_good : (a : PartAt) (o : Option Outline) → Good o → Good (statements.named_only a o)
named_good (Part k) o h = h
named_good _ o h = nothing

item_good : (r : Bool) (k : Kind) (w : List ℕ) (g : Flags) (a : Around) → Good (statements.item_outline r k w g a)
item_good r kind.FunctionDeclaration w g a = named_good a.first _ (function_good g.form a.first)
item_good r kind.ClassDeclaration w g a = named_good a.first _ (class_good a.first a.second)
item_good r kind.VariableDeclaration w g a = declaration_good _
item_good r k w g a = statement_good r k w g a

opened_good : (d s : Bool) → Good (statements.opened_outline d s)
opened_good true true = outlined refl refl
opened_good true false = nothing
opened_good false true = outlined refl refl
opened_good false false = outlined refl refl

opening_good : (r : Bool) (k : Kind) (w : List ℕ) (g : Flags) (a : Around) → Good (statements.opening_outline r k w g a)
opening_good r kind.ExpressionStatement w g a = opened_good g.directive _
opening_good r k w g a = item_good r k w g a

block_good : (r : Bool) (k : Kind) → Good (statements.block_outline r k)
block_good r kind.BlockStatement = outlined refl refl
block_good r _ = nothing

body_good : (k : Kind) → Good (statements.body_outline k)
body_good kind.BlockStatement = outlined refl refl
body_good _ = nothing

program_good : (w : List ℕ) → Good (statements.program_outline w)
program_good w = of (is_empty w || is w "2022") (is w "module")
  where
    of : (u v : Bool) → Good (cond u (statements.prologue_outline false) (cond v (Some (lined Primary Zero (tail_of.ModuleItems true) 0)) None))
    of true v = outlined refl refl
    of false true = outlined refl refl
    of false false = nothing

script_good : (k : Kind) (w : List ℕ) → Good (statements.script_outline k w)
script_good kind.Program w = program_good w
script_good _ w = nothing

head_good : (b : Bool) (k : Kind) (w : List ℕ) (a : Around) → Good (statements.head_outline b k w a)
head_good b kind.VariableDeclaration w a = given _ _ (outlined refl refl)
head_good b _ w a = nothing

assigned_good : (i : Bool) → good_at (slot.Fixed (at.Expression Assignment i Any)) ≡ true
assigned_good true = refl
assigned_good false = refl

initialised_good : (i : Bool) (o : Option Position) → good_role o ≡ true → Good (statements.initialised i o)
initialised_good i None h = nothing
initialised_good i (Some a) h = outlined (and_from _ _ h (assigned_good i)) refl

bare_good : (o : Option Position) → good_role o ≡ true → Good (statements.bare_name o)
bare_good None h = nothing
bare_good (Some a) h = outlined h refl

declared_good : (i b : Bool) (x y z : PartAt) → Good (statements.declared_outline i b x y z)
declared_good i b (Part k) (Part j) Past = given b _ (initialised_good i (bound_at true k) (bound_good true k))
declared_good i b (Part k) Gap Past = unless _ _ (bare_good (bound_at true k) (bound_good true k))
declared_good i b _ _ _ = nothing

declarator_good : (i b : Bool) (k : Kind) (a : Around) → Good (statements.declarator_outline i b k a)
declarator_good i b kind.VariableDeclarator a = declared_good i b a.first a.second a.third
declarator_good i b _ a = nothing

tested_good : (r : Bool) (a : PartAt) → Good (statements.tested_outline r a)
tested_good r Past = nothing
tested_good r Gap = outlined refl refl
tested_good r (Part k) = outlined refl refl

case_good : (r : Bool) (k : Kind) (a : Around) → Good (statements.case_outline r k a)
case_good r kind.SwitchCase a = tested_good r a.first
case_good r _ a = nothing

caught_good : (r : Bool) (o : Option Position) → good_role o ≡ true → Good (statements.caught r o)
caught_good r None h = nothing
caught_good r (Some a) h = outlined (and_from _ _ h refl) refl

caught_outline_good : (r : Bool) (a : PartAt) → Good (statements.caught_outline r a)
caught_outline_good r Past = nothing
caught_outline_good r Gap = outlined refl refl
caught_outline_good r (Part k) = caught_good r (bound_at true k) (bound_good true k)

handler_good : (r : Bool) (k : Kind) (a : Around) → Good (statements.handler_outline r k a)
handler_good r kind.CatchClause a = caught_outline_good r a.first
handler_good r _ a = nothing

-- Of imports, exports and their names

module_name_good : (k : Kind) → good_at (slot.Fixed (modules.module_name_at k)) ≡ true
module_name_good k = of (is_identifier k)
  where
    of : (u : Bool) → good_at (slot.Fixed (cond u at.IdentifierName at.DirectiveString)) ≡ true
    of true = refl
    of false = refl

export_good : (x y z : PartAt) (b : Bool) → Good (modules.export_outline x y z b)
export_good (Part k) Gap Past b = given (modules.is_exported_kind k) _ (outlined refl refl)
export_good Gap y z b = given b _ (outlined refl refl)
export_good _ y z b = nothing

default_item_good : (k : Kind) (b : Bool) → Good (modules.one_part (modules.default_at k b))
default_item_good kind.FunctionDeclaration b = outlined refl refl
default_item_good kind.ClassDeclaration b = outlined refl refl
default_item_good _ b = outlined refl refl

default_export_good : (x y : PartAt) (b : Bool) → Good (modules.default_outline x y b)
default_export_good (Part k) Past b = default_item_good k b
default_export_good _ _ b = nothing

export_all_good : (x y z : PartAt) → Good (modules.export_all_outline x y z)
export_all_good Gap (Part s) Past = outlined refl refl
export_all_good (Part k) (Part s) Past = outlined (and_from _ _ (module_name_good k) refl) refl
export_all_good _ _ _ = nothing

module_item_good : (k : Kind) (a : Around) → Good (modules.module_item_outline k a)
module_item_good kind.ImportDeclaration a = given a.imports_fit _ (outlined refl refl)
module_item_good kind.ExportNamedDeclaration a = export_good a.first a.second a.third a.exports_fit
module_item_good kind.ExportDefaultDeclaration a = default_export_good a.first a.second a.braced
module_item_good kind.ExportAllDeclaration a = export_all_good a.first a.second a.third
module_item_good _ a = nothing

sole_good : (x y : PartAt) → Good (modules.sole_outline x y at.Name)
sole_good (Part k) Past = outlined refl refl
sole_good _ _ = nothing

imported_good : (f : Form) (x y z : PartAt) → Good (modules.imported_outline f x y z)
imported_good form.Shorthand (Part k) Past z = outlined refl refl
imported_good form.Init (Part k) (Part j) Past = outlined (and_from _ _ (module_name_good k) refl) refl
imported_good _ _ _ _ = nothing

exported_good : (f : Form) (x y z : PartAt) → Good (modules.exported_outline f x y z)
exported_good form.Shorthand (Part k) Past z = outlined (module_name_good k) refl
exported_good form.Init (Part k) (Part j) Past = outlined (and_from _ _ (module_name_good k) (module_name_good j)) refl
exported_good _ _ _ _ = nothing

specifier_good : (k : Kind) (g : Flags) (a : Around) → Good (modules.specifier_outline k g a)
specifier_good kind.ImportDefaultSpecifier g a = sole_good a.first a.second
specifier_good kind.ImportNamespaceSpecifier g a = sole_good a.first a.second
specifier_good kind.ImportSpecifier g a = imported_good g.form a.first a.second a.third
specifier_good kind.ExportSpecifier g a = exported_good g.form a.first a.second a.third
specifier_good _ g a = nothing

declared_default_good : (k : Kind) (g : Flags) (a : Around) → Good (modules.default_item_outline k g a)
declared_default_good kind.FunctionDeclaration g a = function_good g.form a.first
declared_default_good kind.ClassDeclaration g a = class_good a.first a.second
declared_default_good _ g a = nothing

outline_good : (p : Position) (k : Kind) (w : List ℕ) (g : Flags) (a : Around) → Good (outline_by p k w g a)
outline_good (at.Expression y i f) k w g a = expression_good k w g a
outline_good (at.ChainPart f) k w g a = spine_good k g a.chained (kind_at a.second)
outline_good at.Name k w g a = name_good k w
outline_good at.IdentifierName k w g a = leaf_good _
outline_good at.PropertyName k w g a = key_good k w
outline_good at.ShorthandKey k w g a = leaf_good _
outline_good at.Super k w g a = leaf_good _
outline_good at.DirectiveString k w g a = quoted_good k w
outline_good at.TaggedQuasi k w g a = quasi_good k
outline_good (at.TemplateElement b c) k w g a = leaf_good _
outline_good at.Spread k w g a = spread_good k
outline_good at.Property k w g a = property_good k g a.second_form
outline_good (at.Pattern b f) k w g a = pattern_good b k
outline_good (at.PatternProperty b) k w g a = pattern_property_good b k g (kind_at a.second)
outline_good (at.Element b) k w g a = element_outline_good b k (kind_at a.first)
outline_good (at.Rest b o) k w g a = rest_good b o k (kind_at a.first)
outline_good (at.Method x) k w g a = method_good x k g a
outline_good at.Body k w g a = body_good k
outline_good (at.Statement r) k w g a = statement_good r k w g a
outline_good (at.StatementListItem r) k w g a = item_good r k w g a
outline_good (at.PrologueItem r) k w g a = opening_good r k w g a
outline_good (at.Block r) k w g a = block_good r k
outline_good (at.ForDeclaration b) k w g a = head_good b k w a
outline_good (at.Declarator i b) k w g a = declarator_good i b k a
outline_good (at.SwitchCase r) k w g a = case_good r k a
outline_good (at.CatchClause r) k w g a = handler_good r k a
outline_good at.ClassBody k w g a = class_body_good k
outline_good at.Member k w g a = class_member_good k g a
outline_good at.PrivateName k w g a = leaf_good _
outline_good at.ModuleItem k w g a = module_item_good k a
outline_good at.Specifier k w g a = specifier_good k g a
outline_good at.DefaultItem k w g a = declared_default_good k g a
outline_good at.Script k w g a = script_good k w

-- Of a node's parts

loosely : (u v : Bool) → u ≡ true → (u || v) ≡ true
loosely true v e = refl
loosely false v e = absurd (false≢true e)

anyway : (u v : Bool) → v ≡ true → (u || v) ≡ true
anyway true v e = refl
anyway false v e = e

settled_plain : (z : Rank) (i : Bool) (f : Start) (s : Slot) → good s ≡ true → is_plain (settle z i f s) ≡ true
settled_plain z i f (fixed a) h = (and_parts _ _ h).0
settled_plain z i f (left y) h = loosely (is_loose y) _ h
settled_plain z i f (lead y) h = anyway (is_loose y) _ h
settled_plain z i f (tail y x) h = loosely (is_loose y) _ (and_parts _ _ h).0
settled_plain z i f callee h = of (is_tight z)
  where
    of : (u : Bool) → is_plain (expr (cond u Member Call) true f) ≡ true
    of true = refl
    of false = refl
settled_plain z i f lead_chain h = refl
settled_plain z i f lead_pattern h = refl

settled_wide : (z : Rank) (i : Bool) (s : Slot) → good s ≡ true → is_wide (settle z i Any s) ≡ true
settled_wide z i (fixed a) h = (and_parts (is_wide a) (is_lawful a) (and_parts (is_plain a) (is_wide a && is_lawful a) h).1).0
settled_wide z i _ h = refl

settled_lawful : (z : Rank) (i : Bool) (f : Start) (s : Slot) → (i || is_no_statement f) ≡ true → good s ≡ true → is_lawful (settle z i f s) ≡ true
settled_lawful z i f (fixed a) l h = (and_parts (is_wide a) (is_lawful a) (and_parts (is_plain a) (is_wide a && is_lawful a) h).1).1
settled_lawful z i f (left y) l h = l
settled_lawful z i f (lead y) l h = refl
settled_lawful z i f (tail y x) l h = anyway i _ (and_parts _ _ h).1
settled_lawful z i f callee l h = refl
settled_lawful z i f lead_chain l h = refl
settled_lawful z i f lead_pattern l h = refl

-- all of them pass the test
abbrev pub all_pass : (Role → Bool) → List Role → Bool
all_pass test [] = true
all_pass test (a ∷ xs) = test a && all_pass test xs

abbrev given_pass : (Role → Bool) → Option (List Role) → Bool
given_pass test None = true
given_pass test (Some xs) = all_pass test xs

module _ (test : Role → Bool) (f : Slot → Role) (settles : (s : Slot) → good s ≡ true → test (f s) ≡ true) where
  settled_pass : (xs : List Slot) → all_good xs ≡ true → all_pass test (map f xs) ≡ true
  settled_pass [] h = refl
  settled_pass (s ∷ xs) h = let p = and_parts _ _ h in and_from _ _ (settles s p.0) (settled_pass xs p.1)

  mapped_pass : (o : Option (List Slot)) → given_good o ≡ true → given_pass test (option_map (map f) o) ≡ true
  mapped_pass None h = refl
  mapped_pass (Some xs) h = settled_pass xs h

given_cond : (test : Role → Bool) (u : Bool) (o : Option (List Role)) → given_pass test o ≡ true → given_pass test (cond u o None) ≡ true
given_cond test true o h = h
given_cond test false o h = refl

verdict_pass : (test : Role → Bool) (xs : List (List (PieceOf Role))) (r : Option (List Role)) → Verdict xs r → given_pass test r ≡ true → all_pass test (first_roles xs) ≡ true
verdict_pass test xs None v h = ap (λ u. all_pass test (first_roles u)) v
verdict_pass test xs (Some rs) v h = ap (all_pass test) v.1 ∙ h

parts_pass : (test : Role → Bool) (a : Role) (n : Tree) → ((s : Slot) → good s ≡ true → test (settle (own_rank a) (own_in a) (own_start a) s) ≡ true) → all_pass test (first_roles (ways a n)) ≡ true
parts_pass test a n h = verdict_pass test (ways a n) (roles_by a n (outline_at p n)) v (given_cond test (is_lean n) _ (of (outline_at p n) (outline_good p (kind_of n) (text_of n) (flags_of n) (around (parts_of n)))))
  where
    p : Position
    p = position_of a

    v : Verdict (ways a n) (roles_by a n (outline_at p n))
    v = subst (λ b. Verdict (ways b n) (roles_by b n (outline_at p n))) (role-position a) (position_ways p n)

    of : (o : Option Outline) → Good o → given_pass test (outlined_roles a (parts_of n) o) ≡ true
    of None e = refl
    of (Some x) e = given_cond test (fits_outline a x) _ (mapped_pass test (settle (own_rank a) (own_in a) (own_start a)) h (outline_slots x (parts_of n)) (slots_good x (parts_of n) e))

-- no part stands at New
pub parts_plain : (a : Role) (n : Tree) → all_pass is_plain (first_roles (ways a n)) ≡ true
parts_plain a n = parts_pass is_plain a n (settled_plain (own_rank a) (own_in a) (own_start a))

-- patterns and parts of chains may begin with anything
pub parts_wide : (a : Role) (n : Tree) → own_start a ≡ Any → all_pass is_wide (first_roles (ways a n)) ≡ true
parts_wide a n e = parts_pass is_wide a n (λ s h. subst (λ f. is_wide (settle (own_rank a) (own_in a) f s) ≡ true) (sym e) (settled_wide (own_rank a) (own_in a) s h))

own_lawful : (a : Role) → is_lawful a ≡ true → (own_in a || is_no_statement (own_start a)) ≡ true
own_lawful (expr y i f) h = h
own_lawful _ h = refl

-- at a position where In is given or no statement starts, parts stand at such
pub parts_lawful : (a : Role) (n : Tree) → is_lawful a ≡ true → all_pass is_lawful (first_roles (ways a n)) ≡ true
parts_lawful a n h = parts_pass is_lawful a n (λ s e. settled_lawful (own_rank a) (own_in a) (own_start a) s (own_lawful a h) e)
