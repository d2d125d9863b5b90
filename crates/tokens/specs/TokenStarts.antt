-- The class of the tokens that a goal reads in front of a text, by the first character, and the second behind a point.
use Rattle.std.specs.Prelude.{ℕ, Bool, true, ◌==◌, ◌||◌, List, [], ◌∷◌, if◌then◌else◌}
use Rattle.std.specs.Char.{is_ascii_alphabetic}
use Rattle.tokens.specs.Alphabet.{one_of, begins_with, is_decimal_digit}
use Rattle.tokens.specs.Lexical.{LexicalClass, IdentifierName, Punctuator, NumericLiteral, StringLiteral, Template, PrivateName, End}
use Rattle.tokens.specs.Goals.{Goal, reads_regexps, reads_template_parts}
use Rattle.tokens.specs.declared.scanner.Start.{Start}
use Rattle.tokens.specs.declared.scanner.Start.TheVariants.{Name, Mark, Brace, Operator, Other}

-- a character with which nothing but a punctuator begins
abbrev pub is_mark : ℕ → Bool
is_mark c = one_of "{()[];,<>=!+-*%&|^~?:" c

-- the class by the first character, where a flag says whether a digit stands behind a point
abbrev pub class_by : Goal → ℕ → Bool → LexicalClass
class_by goal c digit =
    if is_decimal_digit c then NumericLiteral else if one_of "'\"" c then StringLiteral else if one_of "`" c then Template
    else if one_of "}" c then (if reads_template_parts goal then Template else Punctuator)
    else if one_of "/" c then (if reads_regexps goal then LexicalClass.RegularExpressionLiteral else Punctuator)
    else if one_of "." c then (if digit then NumericLiteral else Punctuator)
    else if one_of "#" c then PrivateName
    else if is_mark c then Punctuator else IdentifierName

abbrev pub class_of : Goal → List ℕ → LexicalClass
class_of goal [] = End
class_of goal (c ∷ cs) = class_by goal c (begins_with is_decimal_digit cs)

-- a character with which longer punctuators than itself begin, `/` apart
abbrev pub is_operator : ℕ → Bool
is_operator c = one_of "." c || one_of "<>=!+-*%&|^?" c

-- what a row of the program's table stands for: `a`, `(`, `.`, `}`
abbrev pub start_at : ℕ → Start
start_at row = if row == 97 then Name else if row == 40 then Mark else if row == 46 then Operator else if row == 125 then Brace else Other

-- a character of ASCII begins what is said
abbrev pub begins_so : Start → ℕ → Bool
begins_so Name c = one_of "$_" c || is_ascii_alphabetic c
begins_so Mark c = one_of "{()[];,:~" c
begins_so Brace c = one_of "}" c
begins_so Operator c = is_operator c
begins_so Other c = true
