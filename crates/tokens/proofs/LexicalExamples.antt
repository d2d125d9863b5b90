-- Worked examples of tokens, right and wrong ones.
use Rattle.std.specs.Prelude.{◌≡◌, ℕ, Bool, true, false, not, ◌&&◌, ◌||◌, List, [], ◌∷◌, ◌++◌, Some, None, codes, refl}
use Rattle.std.specs.List.{list_all, list_any}
use Prim.Native.String.{String}
use Rattle.unicode_ident.proofs.Computing.{unicode_ident}
use Rattle.tokens.specs.Alphabet.{is_white_space}
use Rattle.tokens.specs.Comments.{is_comment, hashbang}
use Rattle.tokens.specs.Numbers.{is_number}
use Rattle.tokens.specs.Strings.{is_string, string_units}
use Rattle.tokens.specs.Templates.{is_template, raw_value, cooked_value}
use Rattle.tokens.specs.RegularExpressions.{is_regular_expression}
use Rattle.tokens.specs.Lexical.{Punctuator, NumericLiteral, is_name, is_punctuator, is_token}
use Rattle.tokens.specs.Earlier.{earlier_is_token}

-- all of the texts pass the test, and none does
abbrev all_are : (List ℕ → Bool) → List String → Bool
all_are test [] = true
all_are test (s ∷ ss) = test (codes s) && all_are test ss

abbrev none_are : (List ℕ → Bool) → List String → Bool
none_are test [] = true
none_are test (s ∷ ss) = not (test (codes s)) && none_are test ss

numbers : all_are is_number ("0" ∷ "7" ∷ "10" ∷ "1." ∷ "0." ∷ "1.5" ∷ ".5" ∷ "1e3" ∷ "1E3" ∷ "1.5E3" ∷ "1.e-3" ∷ ".5E+10" ∷ "0e0" ∷ "0n" ∷ "12n" ∷ "0x1F" ∷ "0Xabn" ∷ "0o17" ∷ "0O7n" ∷ "0b01"
    ∷ "0B1n" ∷ "1_0" ∷ "1_000_000" ∷ "1_0n" ∷ "1_0.5_0e1_0" ∷ ".5_0e+1_0" ∷ "0.1_0" ∷ "0xF_F" ∷ "0b1_0n" ∷ "0o1_7" ∷ []) ≡ true
numbers = refl

no_numbers : none_are is_number ("" ∷ "." ∷ ".a" ∷ "010" ∷ "08" ∷ "1e" ∷ "1e+" ∷ "1.5n" ∷ "1.n" ∷ "1e3n" ∷ ".5n" ∷ "0x" ∷ "0xn" ∷ "0xg" ∷ "0o8" ∷ "0b2" ∷ "1__0" ∷ "1_" ∷ "_1" ∷ "0_1" ∷ "0_" ∷ "0_1n" ∷ "0x_F" ∷ "0xF_" ∷ "0xF__F" ∷ "0_xF" ∷ "1_.5" ∷ "1._5" ∷ "1.5_" ∷ "._5" ∷ "1_e5" ∷ "1e_5" ∷ "1e5_" ∷ "1e+_5" ∷ "1_n" ∷ "0x1_n" ∷ "0b1_2" ∷ "1..5" ∷ "-1" ∷ "0x1nn"
    ∷ "1.5.5" ∷ "0x1.5" ∷ "1e1.5" ∷ []) ≡ true
no_numbers = refl

strings : all_are is_string ("''" ∷ "\"\"" ∷ "'a'" ∷ "'\"'" ∷ "\"'\"" ∷ "'\\''" ∷ "'\\\\'" ∷ "'\\0'" ∷ "'\\0a'" ∷ "'\\x41'" ∷ "'\\u0041'" ∷ "'\\u{41}'" ∷ "'\\u{0010FFFF}'" ∷ "'\\q'" ∷ "'\\b\\t\\n\\v\\f\\r'"
    ∷ "'é'" ∷ []) ≡ true
strings = refl

no_strings : none_are is_string ("" ∷ "'" ∷ "'a" ∷ "'abc" ∷ "'a\"" ∷ "'a'b" ∷ "'a''" ∷ "'\\'" ∷ "'\\08'" ∷ "'\\00'" ∷ "'\\1'" ∷ "'\\9'" ∷ "'\\x4'" ∷ "'\\x4g'" ∷ "'\\u004'" ∷ "'\\u{}'" ∷ "'\\u{110000}'"
    ∷ "'\\u{41'" ∷ "'\\u'" ∷ "`a`" ∷ []) ≡ true
no_strings = refl

templates : all_are is_template ("``" ∷ "`a`" ∷ "`a${" ∷ "}x${" ∷ "}`" ∷ "}a`" ∷ "`$`" ∷ "`$(`" ∷ "`$$${" ∷ "`\\``" ∷ "`\\${`" ∷ "`$\\{`" ∷ "`\\1`" ∷ "`\\u{`" ∷ "`{}`" ∷ "`'\"`" ∷ "`\\\\`" ∷ []) ≡ true
templates = refl

no_templates : none_are is_template ("" ∷ "`" ∷ "`abc" ∷ "}" ∷ "}x" ∷ "`a`b" ∷ "`a$(" ∷ "`a${b" ∷ "`a${`" ∷ "``${" ∷ "`\\`" ∷ "`\\" ∷ "`$" ∷ "a`" ∷ "{`" ∷ "${`" ∷ []) ≡ true
no_templates = refl

expressions : all_are is_regular_expression ("/a/" ∷ "/=x/" ∷ "/a/g" ∷ "/a/gimsuy" ∷ "/[/]/" ∷ "/[\\]/]/" ∷ "/\\//" ∷ "/[[]/" ∷ "/]/" ∷ "/a*/" ∷ "/\\*/" ∷ "/[*]/" ∷ "/ /x$_9" ∷ "/{/é" ∷ []) ≡ true
unfolding unicode_ident
expressions = refl

no_expressions : none_are is_regular_expression ("" ∷ "/" ∷ "//" ∷ "/a" ∷ "/*/" ∷ "/[/" ∷ "/[/g" ∷ "/\\/" ∷ "/a\\/" ∷ "/a/ " ∷ "/a/-" ∷ "/a//" ∷ "/[\\]/" ∷ "a/b/" ∷ "//a/" ∷ []) ≡ true
unfolding unicode_ident
no_expressions = refl

punctuators : all_are is_punctuator ("{" ∷ "}" ∷ "(" ∷ "..." ∷ "." ∷ "?." ∷ "??" ∷ "?" ∷ "**=" ∷ ">>>=" ∷ "=>" ∷ "/" ∷ "/=" ∷ "!==" ∷ "&&=" ∷ "||=" ∷ "??=" ∷ []) ≡ true
punctuators = refl

no_punctuators : none_are is_punctuator ("" ∷ ".." ∷ "&&==" ∷ "|||=" ∷ "?=" ∷ "?.=" ∷ "<!--" ∷ "=>>" ∷ "//" ∷ "/*" ∷ "#" ∷ "@" ∷ "a" ∷ "\\" ∷ "?.." ∷ "<>" ∷ []) ≡ true
no_punctuators = refl

-- the line of `#!`, at the beginning alone
lines_of_hashbang : (hashbang (codes "#!a b\n#!c") ≡ codes "#!a b") × (hashbang (codes "#!\r") ≡ codes "#!") × (hashbang (codes "#!") ≡ codes "#!")
lines_of_hashbang = (refl, refl, refl)

no_hashbang : (hashbang (codes " #!a") ≡ []) × (hashbang (codes "# !a") ≡ []) × (hashbang (codes "#") ≡ []) × (hashbang (codes "!#a") ≡ []) × (hashbang [] ≡ [])
no_hashbang = (refl, refl, refl, refl, refl)

-- earlier tokens: what follows each is the second text
earlier_ones : earlier_is_token Punctuator (codes "&&") (codes "=b") && earlier_is_token Punctuator (codes "??") (codes "=") && earlier_is_token NumericLiteral (codes "10") (codes ";")
    && not (is_token Punctuator (codes "&&") (codes "=b")) && not (is_token Punctuator (codes "??") (codes "=")) ≡ true
unfolding unicode_ident
earlier_ones = refl

no_earlier_ones : earlier_is_token Punctuator (codes "&&=") (codes "b") || earlier_is_token Punctuator (codes "&") (codes "&=") || earlier_is_token NumericLiteral (codes "1_0") (codes ";")
    || earlier_is_token NumericLiteral (codes "1") (codes "_0") || earlier_is_token NumericLiteral (codes "1") (codes ".5_0") || earlier_is_token NumericLiteral (codes "1.5") (codes "_0") ≡ false
unfolding unicode_ident
no_earlier_ones = refl

names : all_are is_name ("a" ∷ "$" ∷ "_" ∷ "if" ∷ "a1" ∷ "$_9" ∷ "é" ∷ "ℵ" ∷ "𝒜" ∷ "℘" ∷ "let" ∷ "constructor" ∷ "aé" ∷ []) ≡ true
unfolding unicode_ident
names = refl

-- the third to last are a joiner first, an escape, and a superscript
no_names : none_are is_name ("" ∷ "1" ∷ "1a" ∷ "a-b" ∷ "a b" ∷ " a" ∷ "#a" ∷ "a." ∷ "\\u0061" ∷ "a\\" ∷ "²" ∷ "a²" ∷ "·" ∷ []) ≡ true
unfolding unicode_ident
no_names = refl

-- a joiner goes on with a name and begins none; `·` likewise
joined : is_name (0x61 ∷ 0x200D ∷ []) ∷ is_name (0x61 ∷ 0x200C ∷ 0xB7 ∷ []) ∷ is_name (0x200D ∷ []) ∷ [] ≡ true ∷ true ∷ false ∷ []
unfolding unicode_ident
joined = refl

-- a line feed and a carriage return stand in no string; a separator does, and a line end does behind a backslash
line_ends : is_string (0x27 ∷ 0xA ∷ 0x27 ∷ []) ∷ is_string (0x27 ∷ 0xD ∷ 0x27 ∷ []) ∷ is_string (0x27 ∷ 0x2028 ∷ 0x2029 ∷ 0x27 ∷ [])
    ∷ is_string (0x27 ∷ 0x5C ∷ 0xA ∷ 0x27 ∷ []) ∷ is_string (0x27 ∷ 0x5C ∷ 0xD ∷ 0xA ∷ 0x27 ∷ []) ∷ is_string (0x27 ∷ 0x5C ∷ 0xA ∷ 0xD ∷ 0x27 ∷ [])
    ∷ is_string (0x27 ∷ 0x5C ∷ 0x2028 ∷ 0x27 ∷ []) ∷ [] ≡ false ∷ false ∷ true ∷ true ∷ true ∷ false ∷ true ∷ []
line_ends = refl

-- no line terminator stands in a regular expression, behind a backslash or in brackets either; each stands in a template
expression_line_ends : is_regular_expression (0x2F ∷ 0x61 ∷ 0xA ∷ 0x2F ∷ []) ∷ is_regular_expression (0x2F ∷ 0x5C ∷ 0x2028 ∷ 0x2F ∷ [])
    ∷ is_regular_expression (0x2F ∷ 0x5B ∷ 0xD ∷ 0x5D ∷ 0x2F ∷ []) ∷ is_template (0x60 ∷ 0xA ∷ 0xD ∷ 0x2028 ∷ 0x5C ∷ 0xD ∷ 0xA ∷ 0x60 ∷ []) ∷ [] ≡ false ∷ false ∷ false ∷ true ∷ []
expression_line_ends = refl

-- comments, where U+2028, `a` or nothing follows
comments : all_are (λ cs. is_comment cs (0x2028 ∷ [])) ("//" ∷ "// a */" ∷ "//*" ∷ "/**/" ∷ "/***/" ∷ "/*/*/" ∷ "/* // */" ∷ "/*a*b/**/" ∷ []) ≡ true
comments = refl

no_comments : none_are (λ cs. is_comment cs (codes "a")) ("" ∷ "/" ∷ "//" ∷ "// a" ∷ "/*" ∷ "/*/" ∷ "/* a" ∷ "/**/ " ∷ "/**/*/" ∷ "/**/ /**/" ∷ "* */" ∷ []) ≡ true
no_comments = refl

-- no line comment goes on behind a line terminator, and none stops before
line_comment_ends : none_are (λ cs. is_comment cs []) ("//\n" ∷ "//a\nb" ∷ "//\r" ∷ []) ≡ true
line_comment_ends = refl

comments_last : all_are (λ cs. is_comment cs []) ("//" ∷ "//a" ∷ "/**/" ∷ []) ≡ true
comments_last = refl

-- what strings stand for: in the last, U+1F600 as it is
units_of : string_units (codes "'\\u{1F600}'") ≡ 0xD83D ∷ 0xDE00 ∷ []
units_of = refl

escapes : string_units (codes "\"\\b\\t\\n\\v\\f\\r\\'\\\"\\\\\\0\\q\\x41\\u00e9\\u{61}\"") ≡ 8 ∷ 9 ∷ 10 ∷ 11 ∷ 12 ∷ 13 ∷ 0x27 ∷ 0x22 ∷ 0x5C ∷ 0 ∷ 0x71 ∷ 0x41 ∷ 0xE9 ∷ 0x61 ∷ []
escapes = refl

no_units : string_units (codes "''") ≡ []
no_units = refl

lone_surrogates : string_units (codes "'\\uD83D\\u{DE00}x\\uD800'") ≡ 0xD83D ∷ 0xDE00 ∷ 0x78 ∷ 0xD800 ∷ []
lone_surrogates = refl

continued : string_units (0x27 ∷ 0x61 ∷ 0x5C ∷ 0xD ∷ 0xA ∷ 0x62 ∷ 0x5C ∷ 0x2029 ∷ 0x63 ∷ 0x2028 ∷ 0x27 ∷ []) ≡ 0x61 ∷ 0x62 ∷ 0x63 ∷ 0x2028 ∷ []
continued = refl

as_it_is : string_units (0x27 ∷ 0x1F600 ∷ 0x5C ∷ 0x1F600 ∷ 0x27 ∷ []) ≡ 0xD83D ∷ 0xDE00 ∷ 0xD83D ∷ 0xDE00 ∷ []
as_it_is = refl

-- `\x41` CR LF `b`
turned_raw : raw_value (codes "\\x41" ++ 0xD ∷ 0xA ∷ 0x62 ∷ []) ≡ codes "\\x41" ++ 0xA ∷ 0x62 ∷ []
turned_raw = refl

turned_cooked : cooked_value (codes "\\x41" ++ 0xD ∷ 0xA ∷ 0x62 ∷ []) ≡ Some (0x41 ∷ 0xA ∷ 0x62 ∷ [])
turned_cooked = refl

-- CR, CR LF, LF, and U+2028 as it is
each_line_end : raw_value (0xD ∷ 0xD ∷ 0xA ∷ 0xA ∷ 0x2028 ∷ []) ≡ 0xA ∷ 0xA ∷ 0xA ∷ 0x2028 ∷ []
each_line_end = refl

-- behind a backslash a line end gives nothing
cooked_continued : cooked_value (0x61 ∷ 0x5C ∷ 0xD ∷ 0xA ∷ 0x62 ∷ 0x5C ∷ 0xD ∷ []) ≡ Some (0x61 ∷ 0x62 ∷ [])
cooked_continued = refl

raw_kept : raw_value (codes "\\1") ≡ codes "\\1"
raw_kept = refl

has_no_cooked : List ℕ → Bool
has_no_cooked cs = elim (cooked_value cs) [ Some v ↦ false | None ↦ true ]

uncooked : all_are has_no_cooked ("\\1" ∷ "\\9" ∷ "\\01" ∷ "\\00" ∷ "\\x" ∷ "\\x4" ∷ "\\xg1" ∷ "\\u" ∷ "\\u{" ∷ "\\u{}" ∷ "\\u{61" ∷ "\\u{110000}" ∷ "\\u006" ∷ "a\\1b" ∷ []) ≡ true
unfolding has_no_cooked
uncooked = refl

cooked : none_are has_no_cooked ("" ∷ "a" ∷ "\\0" ∷ "\\0a" ∷ "\\x41" ∷ "\\u{10ffff}" ∷ "\\`" ∷ "\\$" ∷ "$" ∷ "'" ∷ "\\\\" ∷ []) ≡ true
unfolding has_no_cooked
cooked = refl

-- white space, and characters that aren't, line terminators among them
spaces : list_all is_white_space (0x9 ∷ 0xB ∷ 0xC ∷ 0x20 ∷ 0xA0 ∷ 0x1680 ∷ 0x2000 ∷ 0x200A ∷ 0x202F ∷ 0x205F ∷ 0x3000 ∷ 0xFEFF ∷ []) ≡ true
spaces = refl

no_spaces : list_any is_white_space (0xA ∷ 0x85 ∷ 0x180E ∷ 0x1FFF ∷ 0x200B ∷ 0x2028 ∷ []) ≡ false
no_spaces = refl
