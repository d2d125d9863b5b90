-- Words of the user as they are shown on a terminal.
use Rattle.std.specs.Prelude.{◌≡◌, ℕ, ◌/◌, ◌%◌, List, [], ◌∷◌, ◌++◌, Bool, true, false, not, ◌&&◌, ◌||◌, ◌==◌, if◌then◌else◌, codes, chars, encode_utf8_all, flat_map, map, nat_lt}
use Rattle.std.specs.Char.{digit_char, is_control}
use Rattle.std.specs.Int.{is_in_range}

-- Unicode's Bidi_Control: the characters that turn a text round
abbrev pub is_bidi_control : ℕ → Bool
is_bidi_control c = (c == 0x61C) || (is_in_range 0x200E 0x200F c || (is_in_range 0x202A 0x202E c || is_in_range 0x2066 0x2069 c))

-- Unicode's separators of lines and paragraphs
abbrev pub is_separator : ℕ → Bool
is_separator c = is_in_range 0x2028 0x2029 c

-- a character that is not seen itself, and changes what is seen round it
abbrev pub is_hidden : ℕ → Bool
is_hidden c = is_control c || (is_bidi_control c || is_separator c)

abbrev pub two_digits : ℕ → List ℕ
two_digits n = digit_char (n / 16) ∷ digit_char (n % 16) ∷ []

-- `\x` and two hexadecimal digits, or `\u{`, four of them and `}`; hidden characters are below 65,536
abbrev pub escape : ℕ → List ℕ
escape c = if nat_lt c 256 then codes "\\x" ++ two_digits c else codes "\\u{" ++ two_digits (c / 256) ++ two_digits (c % 256) ++ codes "}"

-- a character, or what is shown in its place; a line feed stays where the text may have lines
abbrev pub shown : Bool → ℕ → List ℕ
shown has_lines c = if is_hidden c && not (has_lines && (c == 10)) then escape c else c ∷ []

abbrev pub shown_text : Bool → List ℕ → List ℕ
shown_text has_lines text = encode_utf8_all (flat_map (shown has_lines) (chars text))

-- a text, each hidden character escaped but line feeds
abbrev pub escaped : List ℕ → List ℕ
escaped text = shown_text true text

-- a name on one line, each hidden character escaped
abbrev pub escaped_name : List ℕ → List ℕ
escaped_name name = shown_text false name

-- a byte of a name that isn't UTF-8: a letter, a digit, a sign or a space of ASCII, or what is shown in its place
abbrev pub shown_byte : ℕ → List ℕ
shown_byte b = if is_in_range 32 126 b then b ∷ [] else codes "\\x" ++ encode_utf8_all (two_digits b)

-- a name that isn't UTF-8, on one line
abbrev pub shown_bytes : List ℕ → List ℕ
shown_bytes name = flat_map shown_byte name

-- a character of a text that is to stand on one line
abbrev pub within_line : ℕ → List ℕ
within_line c = if c == 10 then escape c else c ∷ []

-- a text on one line: each line feed escaped
abbrev pub on_one_line : List ℕ → List ℕ
on_one_line text = encode_utf8_all (flat_map within_line (chars text))

-- texts that are some texts on one line each
abbrev pub AreOnOneLine : List (List ℕ) → Type 0
AreOnOneLine lines = (texts : List (List ℕ)) × (lines ≡ map on_one_line texts)
