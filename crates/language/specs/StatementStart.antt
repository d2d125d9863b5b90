-- What a statement or declaration begins with: a test on its first token.
use Rattle.std.specs.Prelude.{ℕ, Bool, true, false, cond, ◌||◌, ◌++◌, List, [], ◌∷◌}
use Prim.Native.String.{String}
use Rattle.tokens.specs.declared.token.TokenClass.{TokenClass}
use Rattle.tokens.specs.declared.token.TokenClass.TheVariants.{IdentifierName, Punctuator}
use Rattle.language.specs.Vocabulary.{among}
use Rattle.language.specs.Token.{Token}
use Rattle.language.specs.ExpressionStart.{ExpressionStart, no_start, expression_start}

pub data StatementStart : Type 0 where
  -- `{`; `;`; `var`, `let` or `const`
  a_block an_empty a_variable : StatementStart
  an_if a_do a_while a_for a_continue a_break a_return a_throw a_switch a_try a_debugger : StatementStart
  a_function a_class : StatementStart
  -- an expression, a directive or a label
  an_expression : StatementStart

-- the words of statements; the flag allows `return`
abbrev pub statement_words : Bool → List (List String × StatementStart)
statement_words r =
    ("var" ∷ [], a_variable) ∷
    ("if" ∷ [], an_if) ∷
    ("do" ∷ [], a_do) ∷
    ("while" ∷ [], a_while) ∷
    ("for" ∷ [], a_for) ∷
    ("continue" ∷ [], a_continue) ∷
    ("break" ∷ [], a_break) ∷
    ("return" ∷ [], cond r a_return an_expression) ∷
    ("throw" ∷ [], a_throw) ∷
    ("switch" ∷ [], a_switch) ∷
    ("try" ∷ [], a_try) ∷
    ("debugger" ∷ [], a_debugger) ∷
    []

-- the words of declarations that are no statements
abbrev pub declaration_words : List (List String × StatementStart)
declaration_words =
    ("function" ∷ [], a_function) ∷
    ("class" ∷ [], a_class) ∷
    ("let" ∷ "const" ∷ [], a_variable) ∷
    []

abbrev pub statement_signs : List (List String × StatementStart)
statement_signs =
    ("{" ∷ [], a_block) ∷
    (";" ∷ [], an_empty) ∷
    []

-- the beginning of the first row that has the text, else an expression
abbrev pub statement_start_among : List ℕ → List (List String × StatementStart) → StatementStart
statement_start_among text [] = an_expression
statement_start_among text (row ∷ rows) = cond (among text row.0) row.1 (statement_start_among text rows)

-- the first flag says that declarations may stand there too, the second that `return` may
abbrev pub statement_start_by : Bool → Bool → TokenClass → List ℕ → StatementStart
statement_start_by item r IdentifierName text = statement_start_among text (cond item declaration_words [] ++ statement_words r)
statement_start_by item r Punctuator text = statement_start_among text statement_signs
statement_start_by item r _ text = an_expression

abbrev pub statement_start : Bool → Bool → Token → StatementStart
statement_start item r token = statement_start_by item r token.class token.text

abbrev pub is_own : StatementStart → Bool
is_own an_expression = false
is_own _ = true

abbrev pub is_opening : ExpressionStart → Bool
is_opening no_start = false
is_opening _ = true

-- a statement or declaration may begin with the token
abbrev pub begins_item : Token → Bool
begins_item token = is_own (statement_start true true token) || is_opening (expression_start token)
