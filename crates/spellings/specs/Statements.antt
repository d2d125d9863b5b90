-- The outlines of statements, items, declarations, cases, handlers, bodies and the script.
use Rattle.std.specs.Prelude.{ℕ, Bool, true, false, cond, ◌&&◌, ◌||◌, List, [], ◌∷◌, Option, Some, None}
use Rattle.language.specs.declared.Rank.TheVariants.{Expression, Assignment, Grouped, Primary}
use Rattle.language.specs.declared.Start.TheVariants.{Any, Statement}
use Rattle.tree.specs.declared.kind.Kind.{Kind}
use Rattle.tree.specs.declared.kind.Kind.TheVariants as kind
use Rattle.tree.specs.declared.kind.Flags.{Flags}
use Rattle.language.specs.Vocabulary.{is, among, is_pattern}
use Rattle.language.specs.Statements.{is_declaration, is_string_literal}
use Rattle.spellings.specs.declared.parts.PartAt.{PartAt}
use Rattle.spellings.specs.declared.parts.PartAt.TheVariants.{Past, Gap, Part}
use Rattle.spelling_table.specs.declared.position.Position.{Position}
use Rattle.spelling_table.specs.declared.position.Position.TheVariants as at
use Rattle.spelling_table.specs.declared.position.Slot.{Slot}
use Rattle.spelling_table.specs.declared.position.Slot.TheVariants.{Fixed}
use Rattle.spelling_table.specs.declared.outline.FixedSlots.{FixedSlots}
use Rattle.spelling_table.specs.declared.outline.FixedSlots.TheVariants.{Zero, One, Two, Three, Four}
use Rattle.spelling_table.specs.declared.outline.ListSlots.TheVariants as tail
use Rattle.spelling_table.specs.declared.outline.Outline.{Outline}
use Rattle.spelling_table.specs.declared.production.ForInit.{ForInit}
use Rattle.spelling_table.specs.declared.production.ForInit.TheVariants.{Nothing, Declaration, Value}
use Rattle.spelling_table.specs.Productions.{body_at}
use Rattle.spelling_table.specs.Outlines.{assignment_at, whole_at, bound_at, leaf, fronted, lined}
use Rattle.tree.specs.Uses.{is_empty}
use Rattle.spellings.specs.Expressions.{Around, kind_at, is_past, function_outline, class_outline, is_arrow_form, only_if}

abbrev pub is_part : PartAt → Bool
is_part (Part k) = true
is_part _ = false

-- a position before others
abbrev pub placed_before : Slot → FixedSlots → FixedSlots
placed_before a Zero = One a
placed_before a (One b) = Two a b
placed_before a (Two b c) = Three a b c
placed_before a (Three b c d) = Four a b c d
placed_before a (Four b c d e) = Four a b c d

abbrev pub part_before : Slot → Option FixedSlots → Option FixedSlots
part_before a None = None
part_before a (Some f) = Some (placed_before a f)

-- a position where a part stands, none where a gap does
abbrev pub given_before : PartAt → Slot → Option FixedSlots → Option FixedSlots
given_before Past a f = None
given_before Gap a f = f
given_before (Part k) a f = part_before a f

abbrev pub of_front : Option FixedSlots → Option Outline
of_front None = None
of_front (Some f) = Some (fronted Primary f)

abbrev pub one : Slot → Option Outline
one a = Some (fronted Primary (One a))

abbrev pub two : Slot → Slot → Option Outline
two a b = Some (fronted Primary (Two a b))

abbrev pub three : Slot → Slot → Slot → Option Outline
three a b c = Some (fronted Primary (Three a b c))

abbrev pub items_outline : Bool → Option Outline
items_outline r = Some (lined Primary Zero (tail.Each (Fixed (at.StatementListItem r))) 0)

abbrev pub declarators_outline : Position → Option Outline
declarators_outline a = Some (lined Primary Zero (tail.Some (Fixed a)) 0)

abbrev pub declaration_outline : Bool → Option Outline
declaration_outline b = cond b (declarators_outline (at.Declarator true true)) None

-- an expression as a statement
abbrev pub evaluated : Slot
evaluated = Fixed (at.Expression Expression true Statement)

abbrev pub expression_statement_outline : Flags → Option Outline
expression_statement_outline g = cond g.directive None (one evaluated)

abbrev pub if_outline : Bool → Bool → PartAt → PartAt → PartAt → PartAt → Option Outline
if_outline r d (Part j) (Part k) Gap Past = two (Fixed whole_at) (body_at r)
if_outline r d (Part j) (Part k) (Part l) Past = cond d None (three (Fixed whole_at) (body_at r) (body_at r))
if_outline r d _ _ _ _ = None

-- what stands first in the head of a `for`
abbrev pub init_at : Kind → Slot
init_at k = Fixed (cond (is_declaration k) (at.ForDeclaration true) (at.Expression Expression false Any))

abbrev pub for_outline : Bool → PartAt → PartAt → PartAt → Option Outline
for_outline r a b c = of_front (given_before a (init_at (kind_at a)) (given_before b (Fixed whole_at) (given_before c (Fixed whole_at) (Some (One (body_at r))))))

abbrev pub left_at : Kind → Option Position
left_at k = cond (is_declaration k) (Some (at.ForDeclaration false)) (bound_at false k)

abbrev pub each_outline : Bool → Option Position → Position → Option Outline
each_outline r None b = None
each_outline r (Some a) b = three (Fixed a) (Fixed b) (body_at r)

abbrev pub word_outline : PartAt → Position → Option Outline
word_outline a x = of_front (given_before a (Fixed x) (Some Zero))

abbrev pub return_outline : Bool → PartAt → Option Outline
return_outline r a = cond r (word_outline a whole_at) None

abbrev pub switch_outline : Bool → Bool → Option Outline
switch_outline r d = cond d None (Some (lined Primary (One (Fixed whole_at)) (tail.Each (Fixed (at.SwitchCase r))) 1))

abbrev pub try_outline : Bool → PartAt → PartAt → PartAt → PartAt → Option Outline
try_outline r (Part j) (Part k) Gap Past = two (Fixed (at.Block r)) (Fixed (at.CatchClause r))
try_outline r (Part j) (Part k) (Part l) Past = three (Fixed (at.Block r)) (Fixed (at.CatchClause r)) (Fixed (at.Block r))
try_outline r (Part j) Gap (Part l) Past = two (Fixed (at.Block r)) (Fixed (at.Block r))
try_outline r _ _ _ _ = None

-- loops and their parts
abbrev pub loop_outline : Bool → Kind → Flags → Around → Option Outline
loop_outline r kind.DoWhileStatement g a = two (body_at r) (Fixed whole_at)
loop_outline r kind.WhileStatement g a = two (Fixed whole_at) (body_at r)
loop_outline r kind.ForStatement g a = for_outline r a.first a.second a.third
loop_outline r kind.ForInStatement g a = each_outline r (left_at (kind_at a.first)) whole_at
loop_outline r kind.ForOfStatement g a = only_if (is_arrow_form g.form) (each_outline r (left_at (kind_at a.first)) assignment_at)
loop_outline r _ g a = None

-- statements that hold others, loops aside
abbrev pub branch_outline : Bool → Kind → Flags → Around → Option Outline
branch_outline r kind.BlockStatement g a = items_outline r
branch_outline r kind.IfStatement g a = if_outline r a.dangling a.first a.second a.third a.fourth
branch_outline r kind.LabeledStatement g a = two (Fixed at.Name) (body_at r)
branch_outline r kind.SwitchStatement g a = switch_outline r a.defaults_twice
branch_outline r kind.TryStatement g a = try_outline r a.first a.second a.third a.fourth
branch_outline r k g a = loop_outline r k g a

abbrev pub statement_outline : Bool → Kind → List ℕ → Flags → Around → Option Outline
statement_outline r kind.VariableDeclaration w g a = declaration_outline (is w "var")
statement_outline r kind.EmptyStatement w g a = Some (leaf Primary)
statement_outline r kind.ExpressionStatement w g a = expression_statement_outline g
statement_outline r kind.ContinueStatement w g a = word_outline a.first at.Name
statement_outline r kind.BreakStatement w g a = word_outline a.first at.Name
statement_outline r kind.ReturnStatement w g a = return_outline r a.first
statement_outline r kind.ThrowStatement w g a = one (Fixed whole_at)
statement_outline r kind.DebuggerStatement w g a = Some (leaf Primary)
statement_outline r k w g a = branch_outline r k g a

-- declarations that are no statements
abbrev pub named_only : PartAt → Option Outline → Option Outline
named_only (Part k) x = x
named_only _ x = None

abbrev pub is_declaring : List ℕ → Bool
is_declaring w = among w ("var" ∷ "let" ∷ "const" ∷ [])

abbrev pub item_outline : Bool → Kind → List ℕ → Flags → Around → Option Outline
item_outline r kind.FunctionDeclaration w g a = named_only a.first (function_outline g.form a.first)
item_outline r kind.ClassDeclaration w g a = named_only a.first (class_outline a.first a.second)
item_outline r kind.VariableDeclaration w g a = declaration_outline (is_declaring w)
item_outline r k w g a = statement_outline r k w g a

-- a statement before which all are directives, by whether it is one and whether its expression is a string
abbrev pub opened_outline : Bool → Bool → Option Outline
opened_outline true true = one (Fixed at.DirectiveString)
opened_outline true false = None
opened_outline false true = one (Fixed (at.Expression Grouped true Any))
opened_outline false false = one evaluated

abbrev pub opening_outline : Bool → Kind → List ℕ → Flags → Around → Option Outline
opening_outline r kind.ExpressionStatement w g a = opened_outline g.directive (is_string_literal (kind_at a.first) a.first_text)
opening_outline r k w g a = item_outline r k w g a

abbrev pub block_outline : Bool → Kind → Option Outline
block_outline r kind.BlockStatement = items_outline r
block_outline r _ = None

abbrev pub prologue_outline : Bool → Option Outline
prologue_outline r = Some (lined Primary Zero (tail.Prologue r true) 0)

abbrev pub body_outline : Kind → Option Outline
body_outline kind.BlockStatement = prologue_outline true
body_outline _ = None

-- the Program, by its text
abbrev pub program_outline : List ℕ → Option Outline
program_outline w =
    cond (is_empty w || is w "2022") (prologue_outline false) (cond (is w "module") (Some (lined Primary Zero (tail.ModuleItems true) 0)) None)

abbrev pub script_outline : Kind → List ℕ → Option Outline
script_outline kind.Program w = program_outline w
script_outline _ w = None

-- a declaration in the head of a `for`: with no initialisers there is one declarator
abbrev pub is_one_part : Around → Bool
is_one_part a = is_part a.first && is_past a.second

abbrev pub head_outline : Bool → Kind → List ℕ → Around → Option Outline
head_outline b kind.VariableDeclaration w a = cond (is_declaring w && (b || is_one_part a)) (declarators_outline (at.Declarator false b)) None
head_outline b _ w a = None

abbrev pub initialised : Bool → Option Position → Option Outline
initialised i None = None
initialised i (Some a) = two (Fixed a) (Fixed (at.Expression Assignment i Any))

abbrev pub bare_name : Option Position → Option Outline
bare_name None = None
bare_name (Some a) = one (Fixed a)

-- a declarator: its name, and what stands at the place of its initialiser
abbrev pub declared_outline : Bool → Bool → PartAt → PartAt → PartAt → Option Outline
declared_outline i b (Part k) (Part j) Past = cond b (initialised i (bound_at true k)) None
declared_outline i b (Part k) Gap Past = cond (b && is_pattern k) None (bare_name (bound_at true k))
declared_outline i b _ _ _ = None

abbrev pub declarator_outline : Bool → Bool → Kind → Around → Option Outline
declarator_outline i b kind.VariableDeclarator a = declared_outline i b a.first a.second a.third
declarator_outline i b _ a = None

abbrev pub tested_outline : Bool → PartAt → Option Outline
tested_outline r Past = None
tested_outline r Gap = Some (lined Primary Zero (tail.Each (Fixed (at.StatementListItem r))) 1)
tested_outline r (Part k) = Some (lined Primary (One (Fixed whole_at)) (tail.Each (Fixed (at.StatementListItem r))) 1)

abbrev pub case_outline : Bool → Kind → Around → Option Outline
case_outline r kind.SwitchCase a = tested_outline r a.first
case_outline r _ a = None

abbrev pub caught : Bool → Option Position → Option Outline
caught r None = None
caught r (Some a) = two (Fixed a) (Fixed (at.Block r))

abbrev pub caught_outline : Bool → PartAt → Option Outline
caught_outline r Past = None
caught_outline r Gap = one (Fixed (at.Block r))
caught_outline r (Part k) = caught r (bound_at true k)

abbrev pub handler_outline : Bool → Kind → Around → Option Outline
handler_outline r kind.CatchClause a = caught_outline r a.first
handler_outline r _ a = None

-- what stands first in the head, by what stands at its place
abbrev pub init_of : PartAt → ForInit
init_of (Part k) = cond (is_declaration k) Declaration Value
init_of _ = Nothing
