-- What a statement begins with in the code, as in the definition; and what a `for` is.
use Rattle.std.specs.Prelude.{◌≡◌, ◌⊎◌, ℕ, Bool, true, false, List, codes}
use Rattle.source_text.specs.declared.fault.Fault.{Fault}
use Rattle.source_text.specs.declared.fault.Fault.TheVariants.{TooDeep}
use Rattle.token_cursor.specs.CursorState.{CursorState}
use Rattle.tokens.specs.declared.token.TokenClass.TheVariants.{IdentifierName, Punctuator}
use Rattle.tokens.specs.declared.token.Goal.TheVariants.{RegExp}
use Rattle.language.specs.StatementStart.{StatementStart, a_block, an_empty, a_variable, an_if, a_do, a_while, a_for, a_continue, a_break, a_return, a_throw, a_switch, a_try, a_debugger, a_function, a_class, an_expression}
use Rattle.language.specs.Token.{Token}
use Rattle.language.specs.Promises.{ReadBy}
use Rattle.tree.specs.declared.kind.Form.TheVariants.{Init, Async}
use Rattle.language.specs.Languages.{is_of_2022}
use Rattle.parser_tables.specs.declared.functions_and_classes.FunctionOrClass.TheVariants as closure
use Rattle.parser_tables.specs.declared.statements.StatementKind.{StatementKind}
use Rattle.parser_tables.specs.declared.statements.StatementKind.TheVariants as headed
use Rattle.parser_tables.specs.declared.statements.StatementStart.{StatementStart as Coded}
use Rattle.parser_tables.specs.declared.statements.StatementStart.TheVariants as code
use Rattle.token_cursor.specs.Seen.{ReadsHere, Sees, Misses}
use Rattle.token_cursor.specs.SourceText.{SourceText, SeenNext, behind_in}

-- what the code has for it
abbrev pub coded_statement_start : StatementStart → Coded
coded_statement_start a_block = code.OfKind headed.Block
coded_statement_start an_empty = code.OfKind headed.Empty
coded_statement_start a_variable = code.OfKind headed.Variable
coded_statement_start an_if = code.OfKind headed.If
coded_statement_start a_do = code.OfKind headed.Do
coded_statement_start a_while = code.OfKind headed.While
coded_statement_start a_for = code.OfKind headed.For
coded_statement_start a_continue = code.OfKind headed.Continue
coded_statement_start a_break = code.OfKind headed.Break
coded_statement_start a_return = code.OfKind headed.Return
coded_statement_start a_throw = code.OfKind headed.Throw
coded_statement_start a_switch = code.OfKind headed.Switch
coded_statement_start a_try = code.OfKind headed.Try
coded_statement_start a_debugger = code.OfKind headed.Debugger
coded_statement_start a_function = code.FunctionOrClass (closure.FunctionDeclaration Init)
coded_statement_start a_class = code.FunctionOrClass closure.ClassDeclaration
coded_statement_start an_expression = code.Expression

-- the goal before an operand reads no token
abbrev pub NothingBegins : SourceText → Token → Type 0
NothingBegins text s = (t m : Token) → ReadBy Token (SeenNext text) (behind_in text) RegExp s t m → ⊥

-- it reads none, or the statement may have no height and is too deep
abbrev pub NotBegun : CursorState → ℕ → Fault → Type 0
NotBegun s high fault = NothingBegins s.text s.last ⊎ ((fault ≡ TooDeep) × (high ≡ 0))

-- what follows the first part in the head of a `for` (ECMA-262 13.7), by what the `for` is
abbrev pub KindFollowed : SourceText → Token → StatementKind → Type 0
KindFollowed text s headed.ForLoop = Sees text Punctuator (codes ";") s
KindFollowed text s headed.ForIn = Sees text IdentifierName (codes "in") s
KindFollowed text s headed.ForOf = Sees text IdentifierName (codes "of") s
KindFollowed text s _ = ⊥

-- nothing that may
abbrev pub KindUnfollowed : SourceText → Token → Type 0
KindUnfollowed text s = Misses text Punctuator (codes ";") s × Misses text IdentifierName (codes "in") s × Misses text IdentifierName (codes "of") s

-- `async` and `function` stand ahead on one line (15.8 of the 13th edition); they don't
pub record AsyncFunctionAhead (text : SourceText) (s : Token) : Type 0 where
  pub mid : Token
  pub async : ReadsHere text IdentifierName (codes "async") s mid
  pub behind : Token
  pub function : ReadsHere text IdentifierName (codes "function") mid behind
  pub same_line : behind.after_break ≡ false

abbrev pub NoAsyncFunction : SourceText → Token → Type 0
NoAsyncFunction text s = AsyncFunctionAhead text s → ⊥

-- what begins ahead where a statement may stand: an async function that is declared, or by the first token alone
abbrev pub BegunWith : SourceText → Token → Bool → Coded → Coded → Type 0
BegunWith text s is_item by_token begun =
    ((begun ≡ code.FunctionOrClass (closure.FunctionDeclaration Async)) × (by_token ≡ code.Expression) × (is_of_2022 text.language ≡ true) × (is_item ≡ true) × AsyncFunctionAhead text s)
    ⊎ ((begun ≡ by_token) × (is_of_2022 text.language ≡ true → is_item ≡ true → NoAsyncFunction text s))

-- the word of a case (13.12): of the default one, or of another
abbrev pub case_word : Bool → List ℕ
case_word true = codes "default"
case_word false = codes "case"
