-- Examples: what can go on behind an expression, and where a `;` may miss.
use Rattle.std.specs.Prelude.{◌≡◌, Bool, true, false, refl, codes}
use Prim.Native.String.{String}
use Rattle.language.specs.declared.Rank.TheVariants.{Expression, Assignment, Conditional, Additive, Multiplicative, Unary, LeftHandSide, New, Member}
use Rattle.language.specs.declared.Edge.TheVariants.{Arrow, Postfix, Other}
use Rattle.tokens.specs.declared.token.TokenClass.{TokenClass}
use Rattle.tokens.specs.declared.token.TokenClass.TheVariants.{IdentifierName, Punctuator, StringLiteral, Template}
use Rattle.language.specs.Pieces.{behind}
use Rattle.language.specs.Edges.{may_omit_semicolon}
use Rattle.language.specs.Token.{Token}
use Rattle.language.specs.Continuations.{stops}

abbrev pub tk : TokenClass → String → Bool → Token
tk c s b = record { class = c; text = codes s; start = 0; stop = 0; after_break = b }

abbrev pub sign : String → Token
sign s = tk Punctuator s false

abbrev a : Token
a = tk IdentifierName "a" false

-- a + b stops before `+` at Multiplicative, not at Additive; `**` goes on behind a unary operand
sum_in_product : stops Multiplicative true Other a (sign "+") ≡ true
sum_in_product = refl

sum_in_sum : stops Additive true Other a (sign "+") ≡ false
sum_in_sum = refl

power_behind_unary : stops Unary true Other a (sign "**") ≡ true
power_behind_unary = refl

-- In
without_in : stops Expression false Other a (tk IdentifierName "in" false) ≡ true
without_in = refl

with_in : stops Expression true Other a (tk IdentifierName "in" false) ≡ false
with_in = refl

of_is_no_operator : stops Expression false Other a (tk IdentifierName "of" false) ≡ true
of_is_no_operator = refl

-- an arrow with a body is followed by a comma at most; within a group by a call
call_behind_arrow : stops Assignment true Arrow (sign "}") (sign "(") ≡ true
call_behind_arrow = refl

comma_behind_arrow : stops Expression true Arrow (sign "}") (sign ",") ≡ false
comma_behind_arrow = refl

call_behind_grouped_arrow : stops Expression true Arrow (sign ")") (sign "(") ≡ false
call_behind_grouped_arrow = refl

question_behind_arrow : stops Expression true Arrow (sign "}") (sign "?") ≡ true
question_behind_arrow = refl

-- the test of a conditional, and its middle
test_of_conditional : stops Conditional true Other a (sign "?") ≡ false
test_of_conditional = refl

middle_of_conditional : stops Assignment true Other a (sign ":") ≡ true
middle_of_conditional = refl

-- `=>` and `=` go on behind a name
arrow_behind_name : stops Assignment true Other a (sign "=>") ≡ false
arrow_behind_name = refl

assignment_behind_target : stops LeftHandSide true Other a (sign "=") ≡ true
assignment_behind_target = refl

-- a string with the text of an operator makes nothing
string_is_no_operator : stops Expression true Other a (tk StringLiteral "+" false) ≡ true
string_is_no_operator = refl

-- a template behind a tag, but not the rest of one
template_behind_tag : stops Member true Other a (tk Template "`x`" false) ≡ false
template_behind_tag = refl

rest_of_template : stops Expression true Other a (tk Template "}x`" false) ≡ true
rest_of_template = refl

-- `=>` on a new line
arrow_on_a_new_line : stops Assignment true Other a (tk Punctuator "=>" true) ≡ true
arrow_on_a_new_line = refl

-- behind `new`, arguments belong to the `new`
call_behind_new : stops New true Other a (sign "(") ≡ true
call_behind_new = refl

member_behind_new : stops New true Other a (sign ".") ≡ false
member_behind_new = refl

-- where `;` may miss: `++` on a new line stops, `(` doesn't, nor may the `;` miss there; behind `a++` both
update_on_a_new_line : stops Expression true Other a (tk Punctuator "++" true) ≡ true
update_on_a_new_line = refl

call_on_a_new_line : stops Expression true Other a (tk Punctuator "(" true) ≡ false
call_on_a_new_line = refl

call_keeps_its_statement : may_omit_semicolon (behind Other) a (tk Punctuator "(" true) ≡ false
call_keeps_its_statement = refl

call_behind_update : stops Expression true Postfix (sign "++") (tk Punctuator "(" true) ≡ true
call_behind_update = refl

call_ends_an_update : may_omit_semicolon (behind Postfix) (sign "++") (tk Punctuator "(" true) ≡ true
call_ends_an_update = refl

member_on_a_new_line : stops Expression true Other a (tk Punctuator "." true) ≡ false
member_on_a_new_line = refl

member_may_miss : may_omit_semicolon (behind Other) a (tk Punctuator "." true) ≡ true
member_may_miss = refl
