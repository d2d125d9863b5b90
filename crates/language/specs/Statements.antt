-- Statements and declarations: the ways to spell each node (ECMA-262 13, 14.1, 14.6, 15.1).
use Rattle.std.specs.Prelude.{ℕ, Bool, true, false, not, cond, ◌&&◌, ◌||◌, List, [], ◌∷◌, ◌++◌, ◌+◌, nat_le, Some, codes}
use Rattle.tree.specs.declared.kind.Kind.{Kind}
use Rattle.tree.specs.declared.kind.Kind.TheVariants.{Literal, MethodDefinition, PropertyDefinition, StaticBlock, ExpressionStatement, BlockStatement, EmptyStatement, DebuggerStatement, ReturnStatement, ThrowStatement, BreakStatement, ContinueStatement, LabeledStatement, IfStatement, SwitchStatement, SwitchCase, TryStatement, CatchClause, WhileStatement, DoWhileStatement, ForStatement, ForInStatement, ForOfStatement, VariableDeclaration, VariableDeclarator, FunctionDeclaration, ClassDeclaration, ImportDeclaration, ImportSpecifier, ImportDefaultSpecifier, ImportNamespaceSpecifier, ExportNamedDeclaration, ExportSpecifier, ExportDefaultDeclaration, ExportAllDeclaration}
use Rattle.language.specs.declared.Rank.TheVariants.{Expression, Assignment, Grouped}
use Rattle.language.specs.declared.Start.TheVariants.{Any, Statement}
use Rattle.language.specs.declared.Edge.{Edge}
use Rattle.language.specs.declared.Edge.TheVariants.{Closed, Other}
use Rattle.tree.specs.declared.kind.Flags.{Flags}
use Rattle.tokens.specs.declared.token.TokenClass.{TokenClass}
use Rattle.tree.specs.declared.kind.Form.{Form}
use Rattle.tree.specs.declared.kind.Form.TheVariants.{Init, Get, Set, Method, Shorthand, Constructor, Async}
use Rattle.tree.specs.Uses.{is_init}
use Rattle.tree.specs.Tree.{Tree, Parts, none, part, gap, kind_of, text_of, flags_of, parts_of}
use Rattle.language.specs.FirstPart.{lead, others, begins_with_brace}
use Rattle.language.specs.Vocabulary.{is, among, literal_class, is_string, is_pattern, is_identifier, is_private}
use Rattle.language.specs.Pieces.{Role, expr, name, private_name, key, directive_string, method, statement, item, opening, block, head, declarator, switch_case, handler, member, module_item, specifier, default_item, bound, put_at, only_at, of_do, of_export, behind, behind_value, behind_key, line, feed, deeper, shallower, Piece, tok, many, unbroken, ending, put, absent, never, lay, Spelling, only, sign, term, sp, nothing, is_none, separator, listed_before}
use Rattle.language.specs.Edges.{edge, last_edge, ends_in_if}
use Rattle.language.specs.Expressions.{assignment, given, module_name, method_words, method_of, value_form, function_pieces, class_pieces}
use Rattle.language.specs.Strings.{literal_units}

abbrev pub whole : Piece
whole = put (expr Expression true Any)

abbrev pub lines : Role → Parts → List Piece
lines role none = []
lines role (part tree rest) = lay line ∷ put role ∷ lines role rest
lines role (gap rest) = nothing

-- `{`, each part on a line of its own, `}`
abbrev pub braced : Parts → List Piece → List Piece
braced parts pieces = sign "{" ∷ cond (is_none parts) [] (lay deeper ∷ []) ++ pieces ++ cond (is_none parts) [] (lay shallower ∷ lay line ∷ []) ++ sign "}" ∷ []

abbrev pub is_string_literal : Kind → List ℕ → Bool
is_string_literal Literal text = is_string (literal_class text)
is_string_literal _ text = false

abbrev pub first_is_string : Parts → Bool
first_is_string none = false
first_is_string (part tree rest) = is_string_literal (kind_of tree) (text_of tree)
first_is_string (gap rest) = false

abbrev pub is_directive : Tree → Bool
is_directive tree = (flags_of tree).directive

-- the items of a Program or a body: directives, then statements. Before each stands `before`, behind it `after`
abbrev pub prologue : Bool → Bool → List Piece → List Piece → Parts → List Piece
prologue r b before after none = []
prologue r b before after (part tree rest) = (before ++ put (cond b (opening r) (item r)) ∷ after) ++ prologue r (b && is_directive tree) before after rest
prologue r b before after (gap rest) = nothing

abbrev pub end_of : Edge → Piece
end_of edge = ending (behind edge)

-- a list of declarators, with its word
abbrev pub declarators : Role → Parts → List Piece
declarators role none = nothing
declarators role (part tree none) = put role ∷ []
declarators role (part tree (part m ps)) = put role ∷ sign "," ∷ sp ∷ declarators role (part m ps)
declarators role (part tree (gap ps)) = nothing
declarators role (gap rest) = nothing

abbrev pub declaration : List ℕ → Role → Parts → List Piece
declaration text role parts = tok TokenClass.IdentifierName text ∷ sp ∷ declarators role parts

abbrev pub is_one : Parts → Bool
is_one none = false
is_one (part tree rest) = is_none rest
is_one (gap rest) = false

abbrev pub is_declaration : Kind → Bool
is_declaration VariableDeclaration = true
is_declaration _ = false

-- the left side in the head of a for-in or for-of
abbrev pub for_left : Parts → Piece
for_left parts = put_at (cond (is_declaration (lead parts)) (Some (head false)) (bound false (lead parts)))

-- a case without test
abbrev pub defaults : Parts → ℕ
defaults none = 0
defaults (part tree rest) = without_test (parts_of tree) + defaults rest
  where
    without_test : Parts → ℕ
    without_test none = 0
    without_test (part m qs) = 0
    without_test (gap qs) = 1
defaults (gap rest) = defaults rest

abbrev pub after_word : Parts → Piece → List Piece
after_word parts piece = given parts (sp ∷ unbroken ∷ piece ∷ [])

-- behind `for`, by the form of a for-of (14.7.5 of the 13th edition)
abbrev pub for_words : Form → List Piece
for_words Init = []
for_words Async = tok TokenClass.Keyword (codes "await") ∷ sp ∷ []
for_words _ = never ∷ []

unfoldable pub statements : Bool → Kind → List ℕ → Flags → Parts → List Spelling
statements r BlockStatement text flags parts = only (braced parts (lines (item r) parts))
statements r VariableDeclaration text flags parts = cond (is text "var") (only (declaration text (declarator true true) parts ++ end_of (last_edge parts) ∷ [])) []
statements r EmptyStatement text flags parts = only (sign ";" ∷ [])
statements r ExpressionStatement text flags parts = cond flags.directive [] (only (put (expr Expression true Statement) ∷ end_of (last_edge parts) ∷ []))
statements r IfStatement text flags none = []
statements r IfStatement text flags (gap rest) = []
statements r IfStatement text flags (part tree rest) = choose rest
  where
    front : List Piece
    front = term "if" ∷ sp ∷ sign "(" ∷ whole ∷ sign ")" ∷ sp ∷ put (statement r) ∷ []

    choose : Parts → List Spelling
    choose (part c (gap none)) = only (front ++ absent ∷ [])
    choose (part c (part a none)) = cond (ends_in_if c) [] (only (front ++ sp ∷ term "else" ∷ sp ∷ put (statement r) ∷ []))
    choose _ = []
statements r DoWhileStatement text flags parts = only (term "do" ∷ sp ∷ put (statement r) ∷ sp ∷ term "while" ∷ sp ∷ sign "(" ∷ whole ∷ sign ")" ∷ ending of_do ∷ [])
statements r WhileStatement text flags parts = only (term "while" ∷ sp ∷ sign "(" ∷ whole ∷ sign ")" ∷ sp ∷ put (statement r) ∷ [])
statements r ForStatement text flags parts =
    only ((term "for" ∷ sp ∷ sign "(" ∷ given parts (put (cond (is_declaration (lead parts)) (head true) (expr Expression false Any)) ∷ []))
    ++ sign ";" ∷ given (others parts) (sp ∷ whole ∷ [])
    ++ sign ";" ∷ given (others (others parts)) (sp ∷ whole ∷ [])
    ++ sign ")" ∷ sp ∷ put (statement r) ∷ [])
statements r ForInStatement text flags parts = only (term "for" ∷ sp ∷ sign "(" ∷ for_left parts ∷ sp ∷ term "in" ∷ sp ∷ whole ∷ sign ")" ∷ sp ∷ put (statement r) ∷ [])
statements r ForOfStatement text flags parts = only (term "for" ∷ sp ∷ for_words flags.form ++ sign "(" ∷ for_left parts ∷ sp ∷ term "of" ∷ sp ∷ put (expr Assignment true Any) ∷ sign ")" ∷ sp ∷ put (statement r) ∷ [])
statements r ContinueStatement text flags parts = only (term "continue" ∷ after_word parts (put name) ++ end_of Closed ∷ [])
statements r BreakStatement text flags parts = only (term "break" ∷ after_word parts (put name) ++ end_of Closed ∷ [])
statements r ReturnStatement text flags parts = cond r (only (term "return" ∷ after_word parts whole ++ end_of (last_edge parts) ∷ [])) []
statements r ThrowStatement text flags parts = only (term "throw" ∷ sp ∷ unbroken ∷ whole ∷ end_of (last_edge parts) ∷ [])
statements r LabeledStatement text flags parts = only (put name ∷ sign ":" ∷ sp ∷ put (statement r) ∷ [])
statements r SwitchStatement text flags parts =
    cond (nat_le (defaults (others parts)) 1)
    (only (term "switch" ∷ sp ∷ sign "(" ∷ whole ∷ sign ")" ∷ sp ∷ braced (others parts) (lines (switch_case r) (others parts)))) []
statements r TryStatement text flags (part b (part tree (gap none))) = only (term "try" ∷ sp ∷ put (block r) ∷ sp ∷ put (handler r) ∷ absent ∷ [])
statements r TryStatement text flags (part b (part tree (part f none))) = only (term "try" ∷ sp ∷ put (block r) ∷ sp ∷ put (handler r) ∷ sp ∷ term "finally" ∷ sp ∷ put (block r) ∷ [])
statements r TryStatement text flags (part b (gap (part f none))) = only (term "try" ∷ sp ∷ put (block r) ∷ absent ∷ sp ∷ term "finally" ∷ sp ∷ put (block r) ∷ [])
statements r TryStatement text flags _ = []
statements r DebuggerStatement text flags parts = only (term "debugger" ∷ end_of Closed ∷ [])
statements r _ text flags parts = []

-- statements and the declarations that are no statements
unfoldable pub items : Bool → Kind → List ℕ → Flags → Parts → List Spelling
items r FunctionDeclaration text flags (part tree rest) = only (function_pieces flags.form (part tree rest))
items r FunctionDeclaration text flags _ = []
items r ClassDeclaration text flags (part tree rest) = only (class_pieces (part tree rest))
items r ClassDeclaration text flags _ = []
items r VariableDeclaration text flags parts = cond (among text ("var" ∷ "let" ∷ "const" ∷ [])) (only (declaration text (declarator true true) parts ++ end_of (last_edge parts) ∷ [])) []
items r kind text flags parts = statements r kind text flags parts

-- an item before which all are directives
unfoldable pub openings : Bool → Kind → List ℕ → Flags → Parts → List Spelling
openings r ExpressionStatement text flags parts =
    cond flags.directive
    (cond (first_is_string parts) (only (put directive_string ∷ end_of Other ∷ [])) [])
    (cond (first_is_string parts)
    (only (put (expr Grouped true Any) ∷ end_of (last_edge parts) ∷ []))
    (only (put (expr Expression true Statement) ∷ end_of (last_edge parts) ∷ [])))
openings r kind text flags parts = items r kind text flags parts

abbrev pub heads : Bool → Kind → List ℕ → Parts → List Spelling
heads b VariableDeclaration text parts =
    cond (among text ("var" ∷ "let" ∷ "const" ∷ []) && (b || is_one parts)) (only (declaration text (declarator false b) parts)) []
heads b _ text parts = []

abbrev pub declarator_ways : Bool → Bool → Kind → Parts → List Spelling
declarator_ways i b VariableDeclarator (part tree (part e none)) =
    cond b (only_at (bound true (kind_of tree)) (sp ∷ sign "=" ∷ sp ∷ put (expr Assignment i Any) ∷ [])) []
declarator_ways i b VariableDeclarator (part tree (gap none)) =
    cond (b && is_pattern (kind_of tree)) [] (only_at (bound true (kind_of tree)) (absent ∷ []))
declarator_ways i b _ _ = []

abbrev pub cases : Bool → Kind → Parts → List Spelling
cases r SwitchCase (part tree rest) = only (term "case" ∷ sp ∷ whole ∷ sign ":" ∷ lay deeper ∷ lines (item r) rest ++ lay shallower ∷ [])
cases r SwitchCase (gap rest) = only (absent ∷ term "default" ∷ sign ":" ∷ lay deeper ∷ lines (item r) rest ++ lay shallower ∷ [])
cases r _ _ = []

abbrev pub handlers : Bool → Kind → Parts → List Spelling
handlers r CatchClause (part tree rest) = only (term "catch" ∷ sp ∷ sign "(" ∷ put_at (bound true (kind_of tree)) ∷ sign ")" ∷ sp ∷ put (block r) ∷ [])
handlers r CatchClause (gap rest) = only (absent ∷ term "catch" ∷ sp ∷ put (block r) ∷ [])
handlers r _ _ = []

abbrev pub member_lines : Parts → List Piece
member_lines none = []
member_lines (part tree rest) = lay line ∷ put member ∷ many (codes ";") ∷ member_lines rest
member_lines (gap rest) = nothing

-- a member's key, of this kind, between these pieces
abbrev pub class_keyed : List Piece → Bool → Kind → List Piece → List Spelling
class_keyed before computed kind after =
    cond computed (only (before ++ sign "[" ∷ assignment ∷ sign "]" ∷ after)) (only (before ++ put (cond (is_private kind) private_name key) ∷ after))

-- a method, behind these pieces, by its form, that of its function, and its key's kind
abbrev pub members : List Piece → Bool → Form → Form → Kind → List Spelling
members before computed Get x kind = class_keyed (before ++ term "get" ∷ sp ∷ []) computed kind (put (method Get) ∷ [])
members before computed Set x kind = class_keyed (before ++ term "set" ∷ sp ∷ []) computed kind (put (method Set) ∷ [])
members before computed _ x kind = class_keyed (before ++ method_words x) computed kind (put (method (method_of x)) ∷ [])

abbrev pub static_word : Bool → List Piece
static_word is_static = cond is_static (term "static" ∷ sp ∷ []) []

-- the text of a key that is a name
abbrev pub key_word : Bool → Tree → List ℕ
key_word computed tree = cond (computed || not (is_identifier (kind_of tree))) [] (text_of tree)

-- a field (15.7 of the 13th edition)
abbrev pub fields : Flags → Parts → List Spelling
fields flags (part n (gap none)) = class_keyed (static_word flags.is_static) flags.computed (kind_of n) (absent ∷ ending (behind_key (key_word flags.computed n) flags.is_static) ∷ [])
fields flags (part n (part v none)) = class_keyed (static_word flags.is_static) flags.computed (kind_of n) (sp ∷ sign "=" ∷ sp ∷ assignment ∷ ending (behind_value (edge v)) ∷ [])
fields flags _ = []

-- a key that isn't computed has the value `constructor`
abbrev pub class_members : Kind → Flags → Parts → List Spelling
class_members MethodDefinition flags parts = cond (fits flags.form) (members (static_word flags.is_static) flags.computed flags.form (value_form parts) (lead parts)) []
  where
    names_constructor : Parts → Bool
    names_constructor none = false
    names_constructor (gap qs) = false
    names_constructor (part n qs) =
        not flags.computed && not flags.is_static && ((is_identifier (kind_of n) && is (text_of n) "constructor") || (is_string_literal (kind_of n) (text_of n) && is (literal_units (text_of n)) "constructor"))

    fits : Form → Bool
    fits Constructor = names_constructor parts && is_init (value_form parts)
    fits Method = not (names_constructor parts && is_init (value_form parts))
    fits Get = true
    fits Set = true
    fits _ = false
class_members PropertyDefinition flags parts = fields flags parts
class_members StaticBlock flags parts = only (term "static" ∷ sp ∷ braced parts (lines (item false) parts))
class_members _ flags parts = []

-- Modules (16.2 of the 13th edition): `from`, the source and the end of an import or export
abbrev pub from_source : List Piece
from_source = sp ∷ term "from" ∷ sp ∷ put directive_string ∷ end_of Closed ∷ []

abbrev pub braces : List Piece
braces = sign "{" ∷ sign "}" ∷ []

-- a name between the braces of an import, of an export
abbrev pub imported : Tree → Piece
imported tree = of_kind (kind_of tree)
  where
    of_kind : Kind → Piece
    of_kind ImportSpecifier = put specifier
    of_kind _ = never

abbrev pub exported : Tree → Piece
exported tree = of_kind (kind_of tree)
  where
    of_kind : Kind → Piece
    of_kind ExportSpecifier = put specifier
    of_kind _ = never

abbrev pub named_imports : Parts → List Piece
named_imports parts = sign "{" ∷ listed_before imported (sign "}" ∷ from_source) parts

-- an import with a default name in front, by the kind of what follows that
abbrev pub behind_default : Kind → Parts → List (List Piece)
behind_default ImportNamespaceSpecifier (part n (part s none)) = (sign "," ∷ sp ∷ put specifier ∷ from_source) ∷ []
behind_default ImportSpecifier parts = (sign "," ∷ sp ∷ named_imports parts) ∷ []
behind_default Literal (part s none) = from_source ∷ (sign "," ∷ sp ∷ braces ++ from_source) ∷ []
behind_default _ parts = []

-- an import, by the kind of its first part (16.2.2)
abbrev pub imports : Kind → Parts → List Spelling
imports Literal (part s none) = only (term "import" ∷ sp ∷ put directive_string ∷ end_of Closed ∷ []) ++ only (term "import" ∷ sp ∷ braces ++ from_source)
imports ImportNamespaceSpecifier (part n (part s none)) = only (term "import" ∷ sp ∷ put specifier ∷ from_source)
imports ImportSpecifier parts = only (term "import" ∷ sp ∷ named_imports parts)
imports ImportDefaultSpecifier (part n rest) = each (behind_default (lead rest) rest)
  where
    each : List (List Piece) → List Spelling
    each [] = []
    each (pieces ∷ others) = only (term "import" ∷ sp ∷ put specifier ∷ pieces) ++ each others
imports _ parts = []

-- the names of an export, then its source or a gap (16.2.3)
abbrev pub export_list : Parts → List Piece
export_list none = nothing
export_list (gap none) = sign "}" ∷ absent ∷ ending of_export ∷ []
export_list (gap (part tree rest)) = nothing
export_list (gap (gap rest)) = nothing
export_list (part s none) = sign "}" ∷ from_source
export_list (part tree rest) = (exported tree ∷ separator (kind_of tree) (is_last rest)) ++ export_list rest
  where
    is_last : Parts → Bool
    is_last (gap none) = true
    is_last (part s none) = true
    is_last _ = false

-- a declaration that may be exported by its names
abbrev pub exported_declaration : Kind → Piece
exported_declaration FunctionDeclaration = put (item false)
exported_declaration ClassDeclaration = put (item false)
exported_declaration VariableDeclaration = put (item false)
exported_declaration _ = never

-- What `export default` exports: a declaration, whose name may be missing, or an expression that begins with no `function` or `class`. One
-- that begins with `{` may, and begins with neither of these.
abbrev pub exported_default : Tree → List Piece
exported_default tree = of_kind (kind_of tree)
  where
    of_kind : Kind → List Piece
    of_kind FunctionDeclaration = put default_item ∷ []
    of_kind ClassDeclaration = put default_item ∷ []
    of_kind kind = put (expr Assignment true (cond (begins_with_brace tree) Any Statement)) ∷ end_of (edge tree) ∷ []

-- imports and exports, which stand among a module's items alone
abbrev pub module_items : Kind → Parts → List Spelling
module_items ImportDeclaration parts = imports (lead parts) parts
module_items ExportNamedDeclaration (part d (gap none)) = only (term "export" ∷ sp ∷ exported_declaration (kind_of d) ∷ absent ∷ [])
module_items ExportNamedDeclaration (gap rest) = only (term "export" ∷ sp ∷ absent ∷ sign "{" ∷ export_list rest)
module_items ExportDefaultDeclaration (part d none) = only (term "export" ∷ sp ∷ term "default" ∷ sp ∷ exported_default d)
module_items ExportAllDeclaration (gap (part s none)) = only (term "export" ∷ sp ∷ absent ∷ sign "*" ∷ from_source)
module_items ExportAllDeclaration (part n (part s none)) = only (term "export" ∷ sp ∷ sign "*" ∷ sp ∷ term "as" ∷ sp ∷ module_name n ∷ from_source)
module_items _ parts = []

-- the names of an import or export
abbrev pub specifiers : Kind → Form → Parts → List Spelling
specifiers ImportDefaultSpecifier form (part n none) = only (put name ∷ [])
specifiers ImportNamespaceSpecifier form (part n none) = only (sign "*" ∷ sp ∷ term "as" ∷ sp ∷ put name ∷ [])
specifiers ImportSpecifier Shorthand (part n none) = only (put name ∷ [])
specifiers ImportSpecifier Init (part m (part n none)) = only (module_name m ∷ sp ∷ term "as" ∷ sp ∷ put name ∷ [])
specifiers ExportSpecifier Shorthand (part n none) = only (module_name n ∷ [])
specifiers ExportSpecifier Init (part m (part n none)) = only (module_name m ∷ sp ∷ term "as" ∷ sp ∷ module_name n ∷ [])
specifiers _ form parts = []

-- a function or class that is a default export: its name may be missing
abbrev pub default_items : Kind → Form → Parts → List Spelling
default_items FunctionDeclaration form parts = only (function_pieces form parts)
default_items ClassDeclaration form parts = only (class_pieces parts)
default_items _ form parts = []

abbrev pub is_module_item : Kind → Bool
is_module_item ImportDeclaration = true
is_module_item ExportNamedDeclaration = true
is_module_item ExportDefaultDeclaration = true
is_module_item ExportAllDeclaration = true
is_module_item _ = false

-- the items of a module: directives, then others
abbrev pub module_prologue : Bool → Parts → List Piece
module_prologue b none = []
module_prologue b (part tree rest) =
    (put (cond (is_module_item (kind_of tree)) module_item (cond b (opening false) (item false))) ∷ lay feed ∷ []) ++ module_prologue (b && is_directive tree) rest
module_prologue b (gap rest) = nothing
