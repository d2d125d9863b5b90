-- Worked examples of patterns: good ones, and the places of first faults.
use Rattle.std.specs.Prelude.{◌≡◌, ℕ, Bool, true, not, ◌==◌, [], ◌∷◌, codes, is_some, unwrap_or, refl}
use Rattle.std.specs.List.{list_all}
use Rattle.std.specs.Char.{encode_utf8}
use Prim.Native.String.{String}
use Rattle.unicode_ident.proofs.Computing.{unicode_ident}
use Rattle.regular_expressions.specs.Patterns.{first_fault}

abbrev is_good : String → Bool
is_good s = not (is_some (first_fault (codes s)))

-- a literal's first fault is at this place
abbrev fails : String × ℕ → Bool
fails (s, place) = unwrap_or (first_fault (codes s)) 0 == place

atoms : list_all is_good ("/a/" ∷ "/./" ∷ "/^$/" ∷ "/a|b|/" ∷ "/|/" ∷ "/(a)(?:b)()/" ∷ "/é*/" ∷ "/😀+/u" ∷ "/\\//" ∷ "/a-b,c:d=e!/" ∷ []) ≡ true
unfolding unicode_ident encode_utf8
atoms = refl

no_atoms : list_all fails (("/]/", 1) ∷ ("/}/", 1) ∷ ("/{/", 1) ∷ ("/a)/", 2) ∷ ("/(/", 2) ∷ ("/(a/", 3) ∷ ("/((a)/", 5) ∷ ("/(?/", 1) ∷ ("/(?a)/", 1) ∷ ("/(?#a)/", 1) ∷ ("/(?i:a)/", 1) ∷ []) ≡ true
unfolding unicode_ident encode_utf8
no_atoms = refl

quantifiers : list_all is_good ("/a*b+c?/" ∷ "/a*?b+?c??/" ∷ "/a{2}/" ∷ "/a{2,}/" ∷ "/a{2,3}?/" ∷ "/a{01,1}/" ∷ "/(a)*(?:b)+[c]?/" ∷ "/a{9,10}/" ∷ "/a{0009,10}/" ∷ "/a{2}?/" ∷ "/a{4294967295,4294967296}/" ∷ []) ≡ true
unfolding unicode_ident encode_utf8
quantifiers = refl

no_quantifiers : list_all fails (("/a{10,9}/", 2) ∷ ("/a{010,9}/", 2) ∷ ("/a{4294967296,4294967295}/", 2) ∷ ("/a**/", 3) ∷ ("/a???/", 4) ∷ ("/+/", 1) ∷ ("/a|*/", 3) ∷ ("/(*)/", 2) ∷ ("/^*/", 2) ∷ ("/\\b+/", 3) ∷ ("/a{/", 2) ∷ ("/a{2/", 2) ∷ ("/a{,2}/", 2) ∷ ("/a{2,b}/", 2) ∷ ("/a{2}{3}/", 5) ∷ []) ≡ true
unfolding unicode_ident encode_utf8
no_quantifiers = refl

lookarounds : list_all is_good ("/(?=a)(?!b)(?<=c)(?<!d)/" ∷ "/((?=a))*/" ∷ "/(?=(a)*)/" ∷ "/(?=(?=a)b(c))/" ∷ []) ≡ true
unfolding unicode_ident encode_utf8
lookarounds = refl

no_lookarounds : list_all fails (("/(?=a)*/", 6) ∷ ("/(?!a){2}/", 6) ∷ ("/(?<=a)?/", 7) ∷ ("/(?<!a)+/", 7) ∷ ("/(?=(a)/", 7) ∷ []) ≡ true
unfolding unicode_ident encode_utf8
no_lookarounds = refl

escapes : list_all is_good ("/\\f\\n\\r\\t\\v/" ∷ "/\\cA\\cz/" ∷ "/\\0/" ∷ "/\\x41/" ∷ "/\\u0041/" ∷ "/\\u{41}\\u{10FFFF}/u" ∷ "/\\u{000000000041}/u" ∷ "/\\uD83D\\uDE00\\uD83D/u" ∷ "/\\^\\$\\\\\\.\\*\\+\\?\\(\\)\\[\\]\\{\\}\\|\\//u" ∷ "/\\-\\ \\\"\\€/" ∷ "/\\d\\D\\s\\S\\w\\W\\b\\B/" ∷ "/\\😀/" ∷ []) ≡ true
unfolding unicode_ident encode_utf8
escapes = refl

no_escapes : list_all fails (("/\\c1/", 1) ∷ ("/\\00/", 1) ∷ ("/\\x4/", 1) ∷ ("/\\u004/", 1) ∷ ("/\\u{41}/", 1) ∷ ("/\\u{110000}/u", 1) ∷ ("/\\u{}/u", 1) ∷ ("/\\-/u", 1) ∷ ("/\\a/", 1) ∷ ("/\\_/", 1) ∷ ("/\\ͺ/", 1) ∷ ("/\\é/", 1) ∷ ("/\\😀/u", 1) ∷ ("/\\k/", 1) ∷ ("/\\p{L}/", 1) ∷ []) ≡ true
unfolding unicode_ident encode_utf8
no_escapes = refl

-- Which properties there are the interpreter of the definitions says: the checker computes by name, and would begin each word anew at each letter.
no_properties : list_all fails (("/\\p/u", 1) ∷ ("/\\p{/u", 1) ∷ ("/\\p{L/u", 1) ∷ ("/\\p{L }/u", 1) ∷ []) ≡ true
unfolding unicode_ident encode_utf8
no_properties = refl

classes : list_all is_good ("/[]/" ∷ "/[^]/" ∷ "/[a-z]/" ∷ "/[a-zA-Z_$]/" ∷ "/[-a]/" ∷ "/[a-]/" ∷ "/[--]/" ∷ "/[a-b-c]/" ∷ "/[a-c-b]/" ∷ "/[\\d-]/" ∷ "/[\\b\\-\\]]/" ∷ "/[^^]/" ∷ "/[\\-]/u" ∷ "/[/(*{]/" ∷ "/[😀-😁]/u" ∷ "/[a-😀-\\uFFFF]/" ∷ "/[\\uD83D\\uDE00-\\uFFFF]/" ∷ "/[\\uD800-\\uDBFF]/u" ∷ "/[a-\\uD83D\\uDE00-b]/u" ∷ []) ≡ true
unfolding unicode_ident encode_utf8
classes = refl

no_classes : list_all fails (("/[b-a]/", 1) ∷ ("/[\\d-a]/", 1) ∷ ("/[a-\\w]/u", 1) ∷ ("/[\\B]/", 1) ∷ ("/[\\1]/", 1) ∷ ("/[\\k]/", 1) ∷ ("/[\\c]/", 1) ∷ ("/[😀-😁]/", 1) ∷ ("/[\\uD83D\\uDE00-\\uFFFF]/u", 1) ∷ ("/[a-\\uD83D\\uDE00-b]/", 1) ∷ []) ≡ true
unfolding unicode_ident encode_utf8
no_classes = refl

references : list_all is_good ("/(a)\\1/" ∷ "/\\1(a)/" ∷ "/(?<a>b)\\k<a>/" ∷ "/\\k<a>(?<a>b)/" ∷ "/(?<a>)(?<b>)\\2/" ∷ "/(?<$_é9>)/" ∷ "/(?<ͺ>)/" ∷ "/(?<\\u0061>b)\\k<a>/" ∷ "/(?<a>b)\\k<\\u{61}>/u" ∷ "/(?<\\ud835\\udcb3>b)\\k<𝒳>/" ∷ "/(?=(a))\\1/" ∷ []) ≡ true
unfolding unicode_ident encode_utf8
references = refl

no_references : list_all fails (("/\\2(a)/", 1) ∷ ("/(a)\\10/", 4) ∷ ("/\\k<b>(?<a>b)/", 1) ∷ ("/\\k<a>/u", 1) ∷ ("/\\k<a(?<a>)/", 1) ∷ ("/(?<a>)|(?<a>)/", 8) ∷ ("/(?<>)/", 1) ∷ ("/(?<a>*)/", 6) ∷ ("/(?<1>)/", 1) ∷ ("/(?<a)/", 1) ∷ ("/(?<a-b>)/", 1) ∷ ("/(?<\\u0020>)/", 1) ∷ ("/(?<\\x61>)/", 1) ∷ ("/(?<\\ud835>)/", 1) ∷ ("/(?<a>)(?<\\u0061>)/", 7) ∷ ("/(?<a\\>)/", 1) ∷ ("/(?<a\\u003eb)/", 1) ∷ ("/\\1(?:a)/", 1) ∷ ("/(a)\\1]/", 6) ∷ []) ≡ true
unfolding unicode_ident encode_utf8
no_references = refl
