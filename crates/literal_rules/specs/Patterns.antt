-- What is looked for in patterns of regular expressions (22.2.1), and in strings.
use Rattle.std.specs.Prelude.{ℕ, Bool, true, false, not, ◌||◌, ◌&&◌, nat_le, List, take, drop, codes}
use Rattle.std.specs.Str.{str_eq_ignore_ascii_case}
use Rattle.tokens.specs.Alphabet.{one_of}
use Rattle.literal_rules.specs.declared.text_state.TextState.{TextState}
use Rattle.literal_rules.specs.declared.text_state.TextState.TheVariants.{Slash, Body, ClassStart, Class, Quote, Inside}
use Rattle.literal_rules.specs.Bytes.{byte_at, is_hex_digit}
use Rattle.literal_rules.specs.Escapes.{begins_escape}

abbrev pub in_pattern : TextState → Bool
in_pattern Body = true
in_pattern ClassStart = true
in_pattern Class = true
in_pattern _ = false

-- two hexadecimal digits whose value is below U+0020
abbrev pub is_low_byte : (first second : ℕ) → Bool
is_low_byte first second = one_of "01" first && is_hex_digit second

-- `\x` and two digits
abbrev pub is_low_hex : List ℕ → Bool
is_low_hex rest = one_of "x" (byte_at rest 1) && is_low_byte (byte_at rest 2) (byte_at rest 3)

-- `\u` and four digits
abbrev pub is_low_unit : List ℕ → Bool
is_low_unit rest = one_of "u" (byte_at rest 1) && one_of "0" (byte_at rest 2) && one_of "0" (byte_at rest 3) && is_low_byte (byte_at rest 4) (byte_at rest 5)

-- a character below U+0020 stands next, as itself or by its number
abbrev pub is_low : List ℕ → Bool
is_low rest = nat_le (byte_at rest 0) 0x1F || (begins_escape rest && (is_low_hex rest || is_low_unit rest))

abbrev pub is_control : TextState → List ℕ → Bool
is_control state rest = in_pattern state && is_low rest

-- `/=` begins a regular expression
abbrev pub begins_division : TextState → List ℕ → Bool
begins_division Slash rest = one_of "=" (byte_at rest 1)
begins_division _ rest = false

-- `]` right behind the `[` of a class
abbrev pub ends_class : TextState → List ℕ → Bool
ends_class ClassStart rest = one_of "]" (byte_at rest 0)
ends_class _ rest = false

-- what begins a Quantifier
abbrev pub is_quantifier : ℕ → Bool
is_quantifier c = one_of "*+?{" c

-- two spaces outside classes; a quantifier behind them would be of the second alone
abbrev pub are_spaces : TextState → List ℕ → Bool
are_spaces Body rest = one_of " " (byte_at rest 0) && one_of " " (byte_at rest 1) && not (is_quantifier (byte_at rest 2))
are_spaces _ rest = false

-- the `}` of what looks like a substitution
abbrev pub closes : TextState → List ℕ → Bool
closes Inside rest = one_of "}" (byte_at rest 0)
closes _ rest = false

-- `javascript:` behind the quotation mark, in small or capital letters
abbrev pub begins_script : TextState → List ℕ → Bool
begins_script Quote rest = str_eq_ignore_ascii_case (take 11 (drop 1 rest)) (codes "javascript:")
begins_script _ rest = false
