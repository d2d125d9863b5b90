-- What statements, functions and classes are made of behind their first token, piece by piece (ECMA-262 clauses 13 and 14).
use Rattle.std.specs.Prelude.{◌≡◌, ◌⊎◌, ℕ, Bool, true, false, List, [], ◌∷◌, codes}
use Prim.Native.String.{String}
use Rattle.tokens.specs.declared.token.TokenClass.TheVariants.{Punctuator}
use Rattle.tree.specs.declared.kind.Flags.{Flags}
use Rattle.tree.specs.declared.kind.Form.{Form}
use Rattle.tree.specs.declared.kind.Form.TheVariants.{Init, Get, Set, Method}
use Rattle.tree.specs.Tree.{plain}
use Rattle.tree.specs.declared.kind.Kind.{Kind}
use Rattle.tree.specs.declared.kind.Kind.TheVariants.{FunctionExpression, FunctionDeclaration, ClassExpression, ClassDeclaration}
use Rattle.covers.specs.declared.list.ListKind.{ListKind}
use Rattle.covers.specs.declared.list.ListKind.TheVariants as listed
use Rattle.parser_tables.specs.declared.functions_and_classes.FunctionOrClass.{FunctionOrClass}
use Rattle.parser_tables.specs.declared.functions_and_classes.FunctionOrClass.TheVariants as closure
use Rattle.parser_tables.specs.declared.statements.StatementKind.{StatementKind}
use Rattle.parser_tables.specs.declared.statements.StatementKind.TheVariants as headed
use Rattle.parser_tables.specs.declared.symbol_lists.Symbol.{Symbol as Coded}
use Rattle.parser_tables.specs.declared.symbol_lists.Symbol.TheVariants as code
use Rattle.language.specs.Token.{Token}
use Rattle.token_cursor.specs.Seen.{Sees, Misses}
use Rattle.token_cursor.specs.SourceText.{SourceText}

-- a token, or what is read by a call; the lists that are pieces have items of their own
pub data Piece : Type 0 where
  mark word : List ℕ → Piece
  -- no line break; a label or nothing; the end of a `do`, or of another statement
  unbroken label end_of_do end : Piece
  -- an Expression, or an AssignmentExpression, with In
  expression assignment : Piece
  -- an expression or nothing: in the head of a `for`, behind `return`, behind `extends`
  test update argument heritage : Piece
  -- what is bound; a statement; `else` and one, or nothing
  binding statement else_part : Piece
  -- a block; `finally` and one, or nothing; a handler or nothing; a function's body; the items of a block, and of a case
  block finally_part handler body items consequent : Piece
  list : ListKind → Piece
  -- what stands first in the head of a `for`; a parameter that is missing
  head missing : Piece

-- what the code's piece is
abbrev pub piece_of : Coded → Piece
piece_of (code.PunctuatorToken w) = mark w.now
piece_of (code.KeywordToken w) = word w.now
piece_of code.NoLineTerminator = unbroken
piece_of code.Label = label
piece_of code.DoWhileSemicolon = end_of_do
piece_of code.Semicolon = end
piece_of code.Expression = expression
piece_of code.Assignment = assignment
piece_of code.Test = test
piece_of code.Update = update
piece_of code.Argument = argument
piece_of code.ClassHeritage = heritage
piece_of code.Binding = binding
piece_of code.Statement = statement
piece_of code.Else = else_part
piece_of code.Block = block
piece_of code.Finally = finally_part
piece_of code.FunctionBody = body
piece_of code.Catch = handler
piece_of code.StatementList = items
piece_of code.CaseStatements = consequent
piece_of (code.List what) = list what
piece_of code.ForHead = head
piece_of code.NoCatchParameter = missing

abbrev pub sign : String → Piece
sign s = mark (codes s)

-- an Expression in parentheses, and more behind it
abbrev pub in_parentheses : List Piece → List Piece
in_parentheses behind = sign "(" ∷ expression ∷ sign ")" ∷ behind

-- the pieces of a loop behind its first token (13.7); of a `for` behind its head, by its kind
abbrev pub loop_parts : StatementKind → List Piece
loop_parts headed.Do = statement ∷ word (codes "while") ∷ in_parentheses (end_of_do ∷ [])
loop_parts headed.For = sign "(" ∷ head ∷ []
loop_parts headed.ForLoop = sign ";" ∷ test ∷ sign ";" ∷ update ∷ sign ")" ∷ statement ∷ []
loop_parts headed.ForIn = word (codes "in") ∷ expression ∷ sign ")" ∷ statement ∷ []
loop_parts headed.ForOf = word (codes "of") ∷ assignment ∷ sign ")" ∷ statement ∷ []
loop_parts _ = in_parentheses (statement ∷ [])

-- a `for`, before or after its head is read
abbrev pub is_for : StatementKind → Bool
is_for headed.For = true
is_for headed.ForLoop = true
is_for headed.ForIn = true
is_for headed.ForOf = true
is_for _ = false

-- of a `switch` (13.12)
abbrev pub switch_parts : Bool → List Piece
switch_parts r = in_parentheses (list (listed.Cases r) ∷ [])

-- of a statement; the flag allows `return`
abbrev pub statement_parts : StatementKind → Bool → List Piece
statement_parts headed.Block r = items ∷ sign "}" ∷ []
statement_parts headed.Empty r = []
statement_parts headed.Variable r = list (listed.Declarators true) ∷ end ∷ []
statement_parts headed.If r = in_parentheses (statement ∷ else_part ∷ [])
statement_parts headed.Continue r = label ∷ end ∷ []
statement_parts headed.Break r = label ∷ end ∷ []
statement_parts headed.Return r = argument ∷ end ∷ []
statement_parts headed.Throw r = unbroken ∷ expression ∷ end ∷ []
statement_parts headed.Switch r = switch_parts r
statement_parts headed.Try r = block ∷ handler ∷ finally_part ∷ []
statement_parts headed.Debugger r = end ∷ []
statement_parts headed.Label r = sign ":" ∷ statement ∷ []
statement_parts what r = loop_parts what

-- behind `case` or `default` (13.12)
abbrev pub case_parts : Bool → List Piece
case_parts true = sign ":" ∷ consequent ∷ []
case_parts false = expression ∷ sign ":" ∷ consequent ∷ []

-- behind `catch` (13.15): with a parameter, where `(` stands ahead, or without
abbrev pub CatchParts : SourceText → Token → List Piece → Type 0
CatchParts text s pieces =
    (Sees text Punctuator (codes "(") s × (pieces ≡ sign "(" ∷ binding ∷ sign ")" ∷ block ∷ []))
    ⊎ (Misses text Punctuator (codes "(") s × (pieces ≡ missing ∷ block ∷ []))

-- of a function from its parameters on: none, one, or any number (14.1, 14.3); of its body alone; of a class behind its name (14.6)
abbrev pub parameters_and_body : ListKind → List Piece
parameters_and_body listed.NoParameter = list listed.NoParameter ∷ body ∷ []
parameters_and_body listed.OneParameter = list listed.OneParameter ∷ body ∷ []
parameters_and_body _ = list listed.Parameters ∷ body ∷ []

abbrev pub body_parts : List Piece
body_parts = body ∷ []

abbrev pub class_parts : List Piece
class_parts = heritage ∷ list listed.Members ∷ []

-- what has a body, behind its name
abbrev pub function_or_class_parts : FunctionOrClass → List Piece
function_or_class_parts closure.Class = class_parts
function_or_class_parts closure.ClassDeclaration = class_parts
function_or_class_parts closure.DefaultClass = class_parts
function_or_class_parts (closure.Method Get) = parameters_and_body listed.NoParameter
function_or_class_parts (closure.Method Set) = parameters_and_body listed.OneParameter
function_or_class_parts _ = parameters_and_body listed.Parameters

abbrev pub function_or_class_kind : FunctionOrClass → Kind
function_or_class_kind (closure.Function form) = FunctionExpression
function_or_class_kind (closure.FunctionDeclaration form) = FunctionDeclaration
function_or_class_kind (closure.DefaultFunction form) = FunctionDeclaration
function_or_class_kind (closure.Method form) = FunctionExpression
function_or_class_kind closure.Class = ClassExpression
function_or_class_kind closure.ClassDeclaration = ClassDeclaration
function_or_class_kind closure.DefaultClass = ClassDeclaration

-- the form of a function; that of a plain method, a getter and a setter is the plain one
abbrev pub function_or_class_form : FunctionOrClass → Form
function_or_class_form (closure.Method Get) = Init
function_or_class_form (closure.Method Set) = Init
function_or_class_form (closure.Method Method) = Init
function_or_class_form (closure.Method form) = form
function_or_class_form (closure.Function form) = form
function_or_class_form (closure.FunctionDeclaration form) = form
function_or_class_form (closure.DefaultFunction form) = form
function_or_class_form _ = Init

abbrev pub function_or_class_flags : FunctionOrClass → Flags
function_or_class_flags c = record plain { form = function_or_class_form c }

-- its name may be missing
abbrev pub may_be_nameless : FunctionOrClass → Bool
may_be_nameless (closure.Function form) = true
may_be_nameless closure.Class = true
may_be_nameless (closure.DefaultFunction form) = true
may_be_nameless closure.DefaultClass = true
may_be_nameless _ = false
