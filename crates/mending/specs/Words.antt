-- Words for what changes ask of nodes. A part that is missing is none of these.
use Rattle.std.specs.Prelude.{ℕ, Bool, true, false, ◌&&◌, ◌||◌, nat_eq, nat_le, List, [], ◌∷◌, ◌-◌, length, Option, Some, None}
use Rattle.std.specs.List.{list_all, slice_range}
use Rattle.std.specs.Str.{bytes_eq, chars}
use Rattle.tokens.specs.Strings.{string_units}
use Rattle.tree.specs.declared.kind.Kind.{Kind}
use Rattle.tree.specs.declared.kind.Kind.TheVariants.{AssignmentExpression, AssignmentPattern, BinaryExpression, BlockStatement, DebuggerStatement, DoWhileStatement, EmptyStatement, ExportSpecifier, ForInStatement, ForOfStatement, ForStatement, Identifier, IfStatement, ImportSpecifier, LabeledStatement, Literal, MemberExpression, Program, Property, ReturnStatement, StaticBlock, SwitchCase, UnaryExpression, VariableDeclaration, WhileStatement}
use Rattle.tree.specs.declared.kind.Form.{Form}
use Rattle.tree.specs.declared.kind.Form.TheVariants.{Init}
use Rattle.tree.specs.declared.kind.Span.{Span}
use Rattle.tree.specs.Tree.{Tree, kind_of, parts_of, part_at, start_of, stop_of, text_of}

-- the part of a node at a place
abbrev pub nth : ℕ → Tree → Option Tree
nth i n = part_at (parts_of n) i

abbrev pub span_of : Tree → Span
span_of n = record { start = start_of n; end = stop_of n }

-- where a part stands; where it is missing, where its node does
abbrev pub span_at : Tree → Option Tree → Span
span_at n None = span_of n
span_at n (Some inner) = span_of inner

-- the text of a part, empty where it is missing
abbrev pub text_at : Option Tree → List ℕ
text_at None = []
text_at (Some n) = text_of n

-- the kind of a part; that of a Program, which is a part of nothing, where it is missing
abbrev pub kind_at : Option Tree → Kind
kind_at None = Program
kind_at (Some n) = kind_of n

abbrev pub is_assignment : Kind → Bool
is_assignment AssignmentExpression = true
is_assignment _ = false

abbrev pub is_assignment_pattern : Kind → Bool
is_assignment_pattern AssignmentPattern = true
is_assignment_pattern _ = false

abbrev pub is_binary : Kind → Bool
is_binary BinaryExpression = true
is_binary _ = false

abbrev pub is_block : Kind → Bool
is_block BlockStatement = true
is_block _ = false

-- a node that has statements as bodies
abbrev pub has_bodies : Kind → Bool
has_bodies IfStatement = true
has_bodies DoWhileStatement = true
has_bodies WhileStatement = true
has_bodies ForStatement = true
has_bodies ForInStatement = true
has_bodies ForOfStatement = true
has_bodies _ = false

abbrev pub is_debugger : Kind → Bool
is_debugger DebuggerStatement = true
is_debugger _ = false

abbrev pub is_declaration : Kind → Bool
is_declaration VariableDeclaration = true
is_declaration _ = false

abbrev pub is_empty_statement : Kind → Bool
is_empty_statement EmptyStatement = true
is_empty_statement _ = false

abbrev pub is_identifier : Kind → Bool
is_identifier Identifier = true
is_identifier _ = false

abbrev pub is_if : Kind → Bool
is_if IfStatement = true
is_if _ = false

abbrev pub is_labelled : Kind → Bool
is_labelled LabeledStatement = true
is_labelled _ = false

abbrev pub is_literal : Kind → Bool
is_literal Literal = true
is_literal _ = false

abbrev pub is_member : Kind → Bool
is_member MemberExpression = true
is_member _ = false

abbrev pub is_property : Kind → Bool
is_property Property = true
is_property _ = false

abbrev pub is_return : Kind → Bool
is_return ReturnStatement = true
is_return _ = false

-- a name of an import or an export, perhaps with `as`
abbrev pub is_specifier : Kind → Bool
is_specifier ImportSpecifier = true
is_specifier ExportSpecifier = true
is_specifier _ = false

abbrev pub is_unary : Kind → Bool
is_unary UnaryExpression = true
is_unary _ = false

-- a node whose parts, but for a case's test, are a list of statements
abbrev pub has_statements : Kind → Bool
has_statements Program = true
has_statements BlockStatement = true
has_statements StaticBlock = true
has_statements SwitchCase = true
has_statements _ = false

abbrev pub is_init : Form → Bool
is_init Init = true
is_init _ = false

-- a text begins with a quotation mark
abbrev pub is_quoted : List ℕ → Bool
is_quoted [] = false
is_quoted (c ∷ cs) = nat_eq c 34 || nat_eq c 39

-- a string of this value (SV, 11.8.4)
abbrev pub is_string : List ℕ → Option Tree → Bool
is_string value it = is_literal (kind_at it) && (is_quoted (text_at it) && bytes_eq (string_units (chars (text_at it))) value)

-- what stands between the quotation marks of a string
abbrev pub inside : List ℕ → List ℕ
inside text = slice_range text 1 (length text - 1)

-- a character that begins a name, and one that goes on with it, of those below U+0080 (11.6)
abbrev pub begins_name : ℕ → Bool
begins_name c = (nat_le 97 c && nat_le c 122) || ((nat_le 65 c && nat_le c 90) || (nat_eq c 36 || nat_eq c 95))

abbrev pub is_in_name : ℕ → Bool
is_in_name c = begins_name c || (nat_le 48 c && nat_le c 57)

-- a name of such characters
abbrev pub is_plain_name : List ℕ → Bool
is_plain_name [] = false
is_plain_name (c ∷ cs) = begins_name c && list_all is_in_name (c ∷ cs)
