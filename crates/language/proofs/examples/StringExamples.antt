-- Examples: the units of strings.
use Rattle.std.specs.Prelude.{◌≡◌, [], ◌∷◌, refl, codes}
use Rattle.language.specs.Strings.{literal_units}

plain_units : literal_units (codes "'a\"b'") ≡ codes "a\"b"
plain_units = refl

empty_units : literal_units (codes "\"\"") ≡ []
empty_units = refl

-- 'b \b \t \n \v \f \r \0 \' \" \\ \z'
single_units : literal_units (codes "'b\\b\\t\\n\\v\\f\\r\\0\\'\\\"\\\\\\z'") ≡ 98 ∷ 8 ∷ 9 ∷ 10 ∷ 11 ∷ 12 ∷ 13 ∷ 0 ∷ 39 ∷ 34 ∷ 92 ∷ 122 ∷ []
single_units = refl

hex_units : literal_units (codes "'\\x63\\x6F\\x6f\\u00e9\\uD83d!'") ≡ 99 ∷ 111 ∷ 111 ∷ 0xE9 ∷ 0xD83D ∷ 33 ∷ []
hex_units = refl

brace_units : literal_units (codes "'\\u{63}\\u{1F600}\\u{00010FFFF}'") ≡ 99 ∷ 0xD83D ∷ 0xDE00 ∷ 0xDBFF ∷ 0xDFFF ∷ []
brace_units = refl

-- é, U+20AC and U+1F600 as they are, and behind a backslash
utf8_units : literal_units (39 ∷ 0xC3 ∷ 0xA9 ∷ 0xE2 ∷ 0x82 ∷ 0xAC ∷ 0xF0 ∷ 0x9F ∷ 0x98 ∷ 0x80 ∷ 92 ∷ 0xC3 ∷ 0xA9 ∷ 39 ∷ []) ≡ 0xE9 ∷ 0x20AC ∷ 0xD83D ∷ 0xDE00 ∷ 0xE9 ∷ []
utf8_units = refl

-- a backslash before LF, CR, CR LF and U+2028
continued_units : literal_units (39 ∷ 97 ∷ 92 ∷ 10 ∷ 98 ∷ 92 ∷ 13 ∷ 99 ∷ 92 ∷ 13 ∷ 10 ∷ 100 ∷ 92 ∷ 0xE2 ∷ 0x80 ∷ 0xA8 ∷ 101 ∷ 39 ∷ []) ≡ codes "abcde"
continued_units = refl
