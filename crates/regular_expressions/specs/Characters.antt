-- The characters of patterns, and their escapes (ECMA-262, 13th edition, 22.2.1, without Annex B). A text is a list of characters. A production is a
-- function of the text that stands at its place: what it makes of the text, and the text behind it; none where it isn't there.
use Rattle.std.specs.Prelude.{ℕ, ◌+◌, ◌*◌, ◌-◌, Bool, true, false, not, ◌&&◌, ◌||◌, ◌==◌, List, [], ◌∷◌, length, drop, take, take_while, nat_le, Option, Some, None, if◌then◌else◌}
use Rattle.std.specs.List.{list_all}
use Rattle.std.specs.Char.{digit_value}
use Rattle.unicode_ident.specs.Ident.{is_xid_start, is_xid_continue}
use Rattle.tokens.specs.Alphabet.{one_of, begins_with, is_empty, is_among, is_decimal_digit, is_hex_digit}
use Rattle.tokens.specs.Escapes.{hex_value}
use Rattle.regular_expressions.specs.PropertyNames.{is_property, is_property_character, is_letter}

-- what a production of a number or a character reads: its value, and the text behind
abbrev pub Number : Type 0
Number = ℕ × List ℕ

-- the same of an atom: its CharacterValue (22.2.1.4), none if it is a class
abbrev pub Valued : Type 0
Valued = Option ℕ × List ℕ

-- UnicodeIDStart and UnicodeIDContinue: with the characters of ID_Start that are no XID_Start, and those of ID_Continue that are no XID_Continue
abbrev pub is_id_start : ℕ → Bool
is_id_start c =
    is_xid_start c ||
    is_among c (0x37A ∷ 0xE33 ∷ 0xEB3 ∷ 0x309B ∷ 0x309C ∷ 0xFC5E ∷ 0xFC5F ∷ 0xFC60 ∷ 0xFC61 ∷ 0xFC62 ∷ 0xFC63 ∷ 0xFDFA ∷ 0xFDFB ∷ 0xFE70 ∷ 0xFE72 ∷ 0xFE74 ∷ 0xFE76 ∷ 0xFE78 ∷ 0xFE7A ∷ 0xFE7C ∷ 0xFE7E ∷ 0xFF9E ∷ 0xFF9F ∷ [])

abbrev pub is_id_continue : ℕ → Bool
is_id_continue c =
    is_xid_continue c ||
    is_among c (0x37A ∷ 0x309B ∷ 0x309C ∷ 0xFC5E ∷ 0xFC5F ∷ 0xFC60 ∷ 0xFC61 ∷ 0xFC62 ∷ 0xFC63 ∷ 0xFDFA ∷ 0xFDFB ∷ 0xFE70 ∷ 0xFE72 ∷ 0xFE74 ∷ 0xFE76 ∷ 0xFE78 ∷ 0xFE7A ∷ 0xFE7C ∷ 0xFE7E ∷ [])

-- RegExpUnicodeEscapeSequence

-- so many HexDigits
abbrev pub hex_digits : ℕ → List ℕ → Option Number
hex_digits count text =
    if (length (take count text) == count) && list_all is_hex_digit (take count text) then Some (hex_value 0 (take count text), drop count text) else None

abbrev pub is_lead : ℕ → Bool
is_lead v = nat_le 0xD800 v && nat_le v 0xDBFF

abbrev pub is_trail : ℕ → Bool
is_trail v = nat_le 0xDC00 v && nat_le v 0xDFFF

abbrev pub only_trail : Option Number → Option Number
only_trail None = None
only_trail (Some (v, rest)) = if is_trail v then Some (v, rest) else None

-- `\u` HexTrailSurrogate
abbrev pub trail : List ℕ → Option Number
trail (c ∷ d ∷ cs) = if one_of "\\" c && one_of "u" d then only_trail (hex_digits 4 cs) else None
trail _ = None

-- a lead surrogate, with the trail surrogate that follows it
abbrev pub paired : ℕ → List ℕ → Option Number → Number
paired lead rest None = (lead, rest)
paired lead rest (Some (trail, behind)) = (0x10000 + 0x400 * (lead - 0xD800) + (trail - 0xDC00), behind)

-- Hex4Digits, by whether surrogates pair
abbrev pub unit : Bool → Option Number → Option Number
unit u None = None
unit u (Some (v, rest)) = Some (if u && is_lead v then paired v rest (trail rest) else (v, rest))

-- CodePoint `}`: the digits, beside what follows them
abbrev pub code_point : List ℕ → List ℕ → Option Number
code_point digits behind =
    if not (is_empty digits) && nat_le (hex_value 0 digits) 0x10FFFF && begins_with (one_of "}") behind then Some (hex_value 0 digits, drop 1 behind) else None

abbrev pub braced : List ℕ → Option Number
braced text = code_point (take_while is_hex_digit text) (drop (length (take_while is_hex_digit text)) text)

-- behind `\u`, with UnicodeMode or without
abbrev pub unicode_escape : Bool → List ℕ → Option Number
unicode_escape u [] = None
unicode_escape u (c ∷ cs) = if u && one_of "{" c then braced cs else unit u (hex_digits 4 (c ∷ cs))

-- CharacterEscape and CharacterClassEscape

-- `{` UnicodePropertyValueExpression `}`
abbrev pub property_between : List ℕ → List ℕ → Option Valued
property_between word behind = if begins_with (one_of "}") behind && is_property word then Some (None, drop 1 behind) else None

abbrev pub property : List ℕ → Option Valued
property [] = None
property (c ∷ cs) =
    if one_of "{" c then property_between (take_while is_property_character cs) (drop (length (take_while is_property_character cs)) cs) else None

-- ControlLetter
abbrev pub control_letter : List ℕ → Option Valued
control_letter [] = None
control_letter (c ∷ cs) = if is_letter c then Some (Some (digit_value c - 9), cs) else None

-- ControlEscape
abbrev pub control_value : ℕ → ℕ
control_value c = if one_of "t" c then 0x9 else if one_of "n" c then 0xA else if one_of "v" c then 0xB else if one_of "f" c then 0xC else 0xD

-- IdentityEscape
abbrev pub is_identity_escape : Bool → ℕ → Bool
is_identity_escape true c = one_of "^$\\.*+?()[]{}|/" c
is_identity_escape false c = not (is_id_continue c)

abbrev pub as_character : Option Number → Option Valued
as_character None = None
as_character (Some (v, rest)) = Some (Some v, rest)

-- behind the backslash
abbrev pub escape : Bool → List ℕ → Option Valued
escape u [] = None
escape u (c ∷ cs) =
    if one_of "dDsSwW" c then Some (None, cs)
    else if u && one_of "pP" c then property cs
    else if one_of "fnrtv" c then Some (Some (control_value c), cs)
    else if one_of "c" c then control_letter cs
    else if one_of "0" c then (if begins_with is_decimal_digit cs then None else Some (Some 0, cs))
    else if one_of "x" c then as_character (hex_digits 2 cs)
    else if one_of "u" c then as_character (unicode_escape u cs)
    else if is_identity_escape u c then Some (Some c, cs)
    else None
