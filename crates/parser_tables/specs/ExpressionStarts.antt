-- What an expression begins with in the code, as in the definition.
use Rattle.std.specs.Prelude.{◌≡◌, ℕ, Bool, true, false, cond, ◌&&◌, List, codes, Option, Some, None, IsFalse}
use Rattle.tree.specs.declared.kind.Kind.TheVariants.{Identifier, Literal, ThisExpression}
use Rattle.tokens.specs.declared.token.Goal.TheVariants.{RegExp}
use Rattle.tokens.specs.declared.token.TokenClass.TheVariants.{IdentifierName, Punctuator}
use Rattle.token_cursor.specs.Seen.{ReadsHere, Sees}
use Rattle.language.specs.Languages.{is_of_2022}
use Rattle.covers.specs.declared.list.ListKind.TheVariants.{Elements, Properties, Template}
use Rattle.language.specs.declared.Language.{Language}
use Rattle.language.specs.declared.Rank.{Rank}
use Rattle.language.specs.declared.Rank.TheVariants.{Assignment, Relational, Unary, Update, LeftHandSide, Call}
use Rattle.language.specs.declared.Start.{Start}
use Rattle.language.specs.declared.Start.TheVariants as start
use Rattle.language.specs.Vocabulary.{is, takes}
use Rattle.language.specs.ExpressionStart.{ExpressionStart, with_name, with_literal, with_this, with_bracket, with_brace, with_function, with_class, with_template, with_parenthesis, with_super, with_new, with_import, with_yield, with_private_name, with_step, with_word, with_sign, no_start, expression_start, expression_start_by}
use Rattle.language.specs.Token.{Token}
use Rattle.language.specs.Promises.{ReadBy}
use Rattle.parser_tables.specs.declared.expression_context.ExpressionContext.{ExpressionContext}
use Rattle.parser_tables.specs.declared.expression_starts.ExpressionStart.{ExpressionStart as Coded}
use Rattle.parser_tables.specs.declared.expression_starts.ExpressionStart.TheVariants as code
use Rattle.token_cursor.specs.SourceText.{SourceText, SeenNext, behind_in}

-- what the code has for it
abbrev pub coded_start : ExpressionStart → Option Coded
coded_start with_name = Some (code.OneToken Identifier)
coded_start with_literal = Some (code.OneToken Literal)
coded_start with_this = Some (code.OneToken ThisExpression)
coded_start with_bracket = Some (code.List Elements)
coded_start with_brace = Some (code.List Properties)
coded_start with_function = Some code.Function
coded_start with_class = Some code.Class
coded_start with_template = Some (code.List Template)
coded_start with_parenthesis = Some code.Parenthesis
coded_start with_super = Some code.Super
coded_start with_new = Some code.New
coded_start with_import = Some code.Import
coded_start with_yield = Some code.Yield
coded_start with_private_name = Some code.PrivateName
coded_start with_step = Some (code.Prefix Update LeftHandSide)
coded_start with_word = Some (code.Prefix Unary Unary)
coded_start with_sign = Some (code.Prefix Unary Unary)
coded_start no_start = None

-- in a language: `yield` and private names begin expressions in that of 2022 alone
abbrev pub start_in : Language → ExpressionStart → ExpressionStart
start_in language with_yield = cond (is_of_2022 language) with_yield no_start
start_in language with_private_name = cond (is_of_2022 language) with_private_name no_start
start_in language x = x

-- what the code has for a name that isn't reserved, for a word, for a token: `async` has a start of its own in the language of 2022
abbrev pub coded_name : Language → List ℕ → Coded
coded_name language w = cond (is_of_2022 language && is w "async") code.Async (code.OneToken Identifier)

abbrev pub with_async : Language → List ℕ → Option Coded → Option Coded
with_async language w (Some (code.OneToken Identifier)) = Some (coded_name language w)
with_async language w x = x

abbrev pub coded_word : Language → List ℕ → Option Coded
coded_word language w = with_async language w (coded_start (start_in language (expression_start_by IdentifierName w)))

abbrev pub coded_in : Language → Token → Option Coded
coded_in language t = with_async language t.text (coded_start (start_in language (expression_start t)))

-- what a position begins with where it takes an object, and where it takes a function or a class
abbrev pub takes_brace : Start → Bool
takes_brace start.Any = true
takes_brace start.NoBrace = false
takes_brace start.Statement = false

abbrev pub takes_function_or_class : Start → Bool
takes_function_or_class start.Statement = false
takes_function_or_class start.Any = true
takes_function_or_class start.NoBrace = true

-- what begins so can be spelled at a symbol with this start, as far as its first token tells
abbrev pub stands_at : Rank → Bool → Start → ExpressionStart → Bool
stands_at y i f with_brace = takes_brace f
stands_at y i f with_function = takes_function_or_class f
stands_at y i f with_class = takes_function_or_class f
stands_at y i f with_step = takes y Update
stands_at y i f with_word = takes y Unary
stands_at y i f with_sign = takes y Unary
stands_at y i f with_import = takes y Call
stands_at y i f with_yield = takes y Assignment
stands_at y i f with_private_name = takes y Relational && i
stands_at y i f no_start = false
stands_at y i f _ = true

-- whether what the code has for it may stand there
abbrev pub stood : Rank → Bool → Start → Coded → Bool
stood y i f (code.List Properties) = takes_brace f
stood y i f code.Function = takes_function_or_class f
stood y i f code.Class = takes_function_or_class f
stood y i f (code.Prefix own side) = takes y own
stood y i f code.Import = takes y Call
stood y i f code.Yield = takes y Assignment
stood y i f code.PrivateName = takes y Relational && i
stood y i f _ = true

abbrev pub opens_at : ExpressionContext → Token → Bool
opens_at p t = stands_at p.rank p.has_in p.start (expression_start t)

abbrev pub opens_in : Language → ExpressionContext → Token → Bool
opens_in language p t = stands_at p.rank p.has_in p.start (start_in language (expression_start t))

-- `import` and `.` stand ahead (13.3.12 of the 13th edition)
pub record MetaAhead (text : SourceText) (s : Token) : Type 0 where
  pub mid : Token
  pub import_word : ReadsHere text IdentifierName (codes "import") s mid
  pub dot : Sees text Punctuator (codes ".") mid

-- with what is read behind a place the position begins with nothing
abbrev pub OpensNothing : SourceText → ExpressionContext → Token → Type 0
OpensNothing text p s = (t m : Token) → ReadBy Token (SeenNext text) (behind_in text) RegExp s t m → IsFalse (opens_in text.language p t) × (is_of_2022 text.language ≡ true → MetaAhead text s → ⊥)

-- what is begun by one of seven words, or by a private name
abbrev pub is_by_word : Coded → Bool
is_by_word code.Function = true
is_by_word code.Class = true
is_by_word code.Super = true
is_by_word code.New = true
is_by_word code.Import = true
is_by_word code.Yield = true
is_by_word code.Async = true
is_by_word code.PrivateName = true
is_by_word _ = false
