-- What an expression begins with: a test on its first token.
use Rattle.std.specs.Prelude.{ℕ, cond, List, [], ◌∷◌, nat_eq, slice_index_or}
use Prim.Native.String.{String}
use Rattle.tokens.specs.declared.token.TokenClass.{TokenClass}
use Rattle.tokens.specs.declared.token.TokenClass.TheVariants.{IdentifierName, Punctuator, NumericLiteral, StringLiteral, Template, RegularExpressionLiteral, PrivateName, Keyword, End}
use Rattle.language.specs.Vocabulary.{among, is_reserved, is_keyword}
use Rattle.language.specs.Token.{Token}

pub data ExpressionStart : Type 0 where
  -- an identifier, alone or as the parameter of an arrow
  with_name : ExpressionStart
  -- a number, a string, a regular expression, `true`, `false` or `null`
  with_literal : ExpressionStart
  with_this : ExpressionStart
  -- `[`: an array, or the pattern of an assignment; `{`: an object, or such a pattern
  with_bracket with_brace : ExpressionStart
  with_function with_class with_template : ExpressionStart
  -- `(`: a group, or the parameters of an arrow
  with_parenthesis : ExpressionStart
  with_super with_new with_import : ExpressionStart
  -- `yield`
  with_yield : ExpressionStart
  -- a private name, before `in`
  with_private_name : ExpressionStart
  -- `++` or `--`; `delete`, `void`, `typeof` or `await`; `+`, `-`, `~` or `!`
  with_step with_word with_sign : ExpressionStart
  no_start : ExpressionStart

abbrev pub start_words : List (List String × ExpressionStart)
start_words =
    ("true" ∷ "false" ∷ "null" ∷ [], with_literal) ∷
    ("this" ∷ [], with_this) ∷
    ("function" ∷ [], with_function) ∷
    ("class" ∷ [], with_class) ∷
    ("super" ∷ [], with_super) ∷
    ("new" ∷ [], with_new) ∷
    ("import" ∷ [], with_import) ∷
    ("yield" ∷ [], with_yield) ∷
    ("delete" ∷ "void" ∷ "typeof" ∷ [], with_word) ∷
    []

abbrev pub start_punctuators : List (List String × ExpressionStart)
start_punctuators =
    ("[" ∷ [], with_bracket) ∷
    ("{" ∷ [], with_brace) ∷
    ("(" ∷ [], with_parenthesis) ∷
    ("++" ∷ "--" ∷ [], with_step) ∷
    ("+" ∷ "-" ∷ "~" ∷ "!" ∷ [], with_sign) ∷
    []

-- the opening of the first row that has the text, else another
abbrev pub start_among : List ℕ → List (List String × ExpressionStart) → ExpressionStart → ExpressionStart
start_among text [] other = other
start_among text (row ∷ rows) other = cond (among text row.0) row.1 (start_among text rows other)

-- an expression begins with no other reserved word
abbrev pub expression_start_by : TokenClass → List ℕ → ExpressionStart
expression_start_by IdentifierName text = start_among text start_words (cond (is_reserved text) no_start with_name)
expression_start_by Punctuator text = start_among text start_punctuators no_start
expression_start_by NumericLiteral text = with_literal
expression_start_by StringLiteral text = with_literal
expression_start_by RegularExpressionLiteral text = with_literal
expression_start_by Template text = cond (nat_eq (slice_index_or text 0 0) 96) with_template no_start
expression_start_by PrivateName text = with_private_name
expression_start_by Keyword text = cond (is_keyword text) with_word no_start
expression_start_by End text = no_start

abbrev pub expression_start : Token → ExpressionStart
expression_start token = expression_start_by token.class token.text
