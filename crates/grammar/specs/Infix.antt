-- The operators of the code, as those of the definition.
use Rattle.std.specs.Prelude.{ℕ, Bool, true, false, cond, not, ◌&&◌, List, Option, Some, None, nat_eq, length}
use Prim.Native.String.{String}
use Rattle.tree.specs.declared.kind.Kind.{Kind}
use Rattle.tree.specs.declared.kind.Kind.TheVariants.{BinaryExpression, LogicalExpression}
use Rattle.language.specs.declared.Rank.TheVariants.{Exponentiation, Update}
use Rattle.language.specs.Vocabulary.{is, is_word_operator, Operator, op_binary, op_power, op_assign, op_update, op_comma, op_question, op_dot, op_call, op_index, op_optional, op_arrow, op_template, op_none, operators}
use Rattle.grammar.specs.OperatorRows.{only_texts}
use Rattle.grammar.specs.declared.infix.InfixOperator.{InfixOperator as Coded}
use Rattle.grammar.specs.declared.infix.InfixOperator.TheVariants as code

-- what the code has for an operator with this text
abbrev pub coded_operator : Operator → List ℕ → Option Coded
coded_operator (op_binary l z q) w = Some (code.Binary (record { kind = cond l LogicalExpression BinaryExpression; own = z; left = z; right = q }))
coded_operator op_power w = Some (code.Binary (record { kind = BinaryExpression; own = Exponentiation; left = Update; right = Exponentiation }))
coded_operator op_assign w = Some (code.Assign (is w "="))
coded_operator op_update w = Some code.PostUpdate
coded_operator op_comma w = Some code.Comma
coded_operator op_question w = Some code.Question
coded_operator op_dot w = Some code.Dot
coded_operator op_call w = Some code.OpenParen
coded_operator op_index w = Some code.OpenBracket
coded_operator op_optional w = Some code.QuestionDot
coded_operator op_arrow w = Some code.FatArrow
coded_operator op_template w = Some code.TemplateHead
coded_operator op_none w = None

-- what it is in the definition, but for the left side of `**`
abbrev pub is_logical : Kind → Bool
is_logical LogicalExpression = true
is_logical _ = false

abbrev pub meant : Coded → Operator
meant (code.Binary sign) = op_binary (is_logical sign.kind) sign.own sign.right
meant (code.Assign b) = op_assign
meant code.PostUpdate = op_update
meant code.Comma = op_comma
meant code.Question = op_question
meant code.Dot = op_dot
meant code.OpenParen = op_call
meant code.OpenBracket = op_index
meant code.QuestionDot = op_optional
meant code.FatArrow = op_arrow
meant code.TemplateHead = op_template

-- signs of one byte, longer signs, and words
abbrev pub is_short : List ℕ → Bool
is_short w = nat_eq (length w) 1

abbrev pub is_long : List ℕ → Bool
is_long w = not (nat_eq (length w) 1) && not (is_word_operator w)

abbrev pub short_operators : List (List String × Operator)
short_operators = only_texts is_short operators

abbrev pub long_operators : List (List String × Operator)
long_operators = only_texts is_long operators

abbrev pub word_operators : List (List String × Operator)
word_operators = only_texts is_word_operator operators

-- what goes on with a part of a chain (ECMA-262 12.3.9), or would, if it were no template
abbrev pub links : Operator → Bool
links op_dot = true
links op_call = true
links op_index = true
links op_optional = true
links op_template = true
links _ = false
