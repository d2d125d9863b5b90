-- RegularExpressionLiteral (ECMA-262 11.8.5), by how far a literal has been read.
use Rattle.std.specs.Prelude.{ℕ, Bool, true, false, ◌&&◌, List, [], ◌∷◌, if◌then◌else◌}
use Rattle.source_text.specs.Lines.{is_line_terminator}
use Rattle.tokens.specs.Alphabet.{one_of, is_identifier_part}

pub data RegularExpression : Type 0 where
  -- `/`; RegularExpressionBody, of a character at least; RegularExpressionClass, from `[` on; RegularExpressionFlags, from the second `/` on
  opened body brackets flags : RegularExpression
  -- a backslash in the body or in brackets, which takes the next character
  body_backslash brackets_backslash : RegularExpression
  -- no beginning of a literal
  no_expression : RegularExpression

-- RegularExpressionChar, or the end of the body
abbrev pub next_in_body : ℕ → RegularExpression
next_in_body c =
    if is_line_terminator c then no_expression else if one_of "/" c then flags
    else if one_of "\\" c then body_backslash else if one_of "[" c then brackets else body

-- RegularExpressionClassChar, or the end of the class
abbrev pub next_in_brackets : ℕ → RegularExpression
next_in_brackets c =
    if is_line_terminator c then no_expression else if one_of "\\" c then brackets_backslash
    else if one_of "]" c then body else brackets

-- how far it has been read behind one more character
abbrev pub next_expression : RegularExpression → ℕ → RegularExpression
next_expression opened c = if one_of "*/" c then no_expression else next_in_body c
next_expression body c = next_in_body c
next_expression brackets c = next_in_brackets c
next_expression flags c = if is_identifier_part c then flags else no_expression
next_expression body_backslash c = if is_line_terminator c then no_expression else body
next_expression brackets_backslash c = if is_line_terminator c then no_expression else brackets
next_expression no_expression c = no_expression

-- whether a literal may end there
abbrev pub has_flags : RegularExpression → Bool
has_flags flags = true
has_flags opened = false
has_flags body = false
has_flags brackets = false
has_flags body_backslash = false
has_flags brackets_backslash = false
has_flags no_expression = false

abbrev pub expression_after : RegularExpression → List ℕ → RegularExpression
expression_after read [] = read
expression_after read (c ∷ cs) = expression_after (next_expression read c) cs

abbrev pub is_regular_expression : List ℕ → Bool
is_regular_expression [] = false
is_regular_expression (c ∷ cs) = one_of "/" c && has_flags (expression_after opened cs)
