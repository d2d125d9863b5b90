-- Backslashes before what is itself without them: EscapeSequence (12.9.4), CharacterEscape and ClassEscape (22.2.1).
use Rattle.std.specs.Prelude.{ℕ, Bool, true, false, not, ◌||◌, ◌&&◌, cond, nat_eq, List}
use Rattle.tokens.specs.Alphabet.{one_of}
use Rattle.literal_rules.specs.declared.text_state.TextState.{TextState}
use Rattle.literal_rules.specs.declared.text_state.TextState.TheVariants.{Body, ClassStart, Class, Double, Single, Template, TemplateDollar}
use Rattle.literal_rules.specs.Bytes.{byte_at, is_digit}

abbrev pub begins_escape : List ℕ → Bool
begins_escape rest = one_of "\\" (byte_at rest 0)

-- what a backslash makes something else of wherever it stands in a pattern; `]` and the backslash itself
abbrev pub is_class_escape : ℕ → Bool
is_class_escape c = is_digit c || one_of "\\]bcdDfnpPrsStvwWxu" c

-- SyntaxCharacter, without those, and `/`
abbrev pub is_syntax : ℕ → Bool
is_syntax c = one_of "^$.*+?()[{}|/" c

-- outside classes
abbrev pub is_pattern_escape : ℕ → Bool
is_pattern_escape c = is_class_escape c || is_syntax c || one_of "Bk" c

-- in a class: first in it also `\^`, elsewhere also `\-` but for its end
abbrev pub is_useless_in_class : List ℕ → Bool → Bool
is_useless_in_class rest is_first =
    not (is_class_escape (byte_at rest 1) || cond is_first (one_of "^" (byte_at rest 1)) (one_of "-" (byte_at rest 1) && not (one_of "]" (byte_at rest 2))))

-- LineTerminator (12.3) behind a backslash: U+2028 and U+2029 by their bytes
abbrev pub ends_line : List ℕ → Bool
ends_line rest =
    nat_eq (byte_at rest 1) 10 || nat_eq (byte_at rest 1) 13
    || (nat_eq (byte_at rest 1) 0xE2 && nat_eq (byte_at rest 2) 0x80 && (nat_eq (byte_at rest 3) 0xA8 || nat_eq (byte_at rest 3) 0xA9))

-- SingleEscapeCharacter without quotes, digits, `x` and `u`; LineContinuation
abbrev pub is_string_escape : List ℕ → Bool
is_string_escape rest = ends_line rest || is_digit (byte_at rest 1) || one_of "\\nrvtbfux" (byte_at rest 1)

-- in a string, also before its own quote
abbrev pub is_useless_in_string : List ℕ → ℕ → Bool
is_useless_in_string rest quote = not (is_string_escape rest || nat_eq (byte_at rest 1) quote)

-- in a template, also before a grave accent, and where it keeps `${` from being one
abbrev pub is_useless_in_template : List ℕ → Bool → Bool
is_useless_in_template rest is_behind_dollar =
    not (is_string_escape rest || one_of "`" (byte_at rest 1) || (one_of "$" (byte_at rest 1) && one_of "{" (byte_at rest 2)) || (one_of "{" (byte_at rest 1) && is_behind_dollar))

-- of a backslash that stands next
abbrev pub is_useless_here : TextState → List ℕ → Bool
is_useless_here Body rest = not (is_pattern_escape (byte_at rest 1))
is_useless_here ClassStart rest = is_useless_in_class rest true
is_useless_here Class rest = is_useless_in_class rest false
is_useless_here Double rest = is_useless_in_string rest 34
is_useless_here Single rest = is_useless_in_string rest 39
is_useless_here Template rest = is_useless_in_template rest false
is_useless_here TemplateDollar rest = is_useless_in_template rest true
is_useless_here _ rest = false

-- a backslash without use stands next
abbrev pub is_useless : TextState → List ℕ → Bool
is_useless state rest = begins_escape rest && is_useless_here state rest
