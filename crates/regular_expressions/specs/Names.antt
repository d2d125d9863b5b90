-- GroupName (ECMA-262, 13th edition, 22.2.1), by value: escapes stand for their characters.
use Rattle.std.specs.Prelude.{ℕ, zero, suc, ◌-◌, Bool, true, false, not, ◌&&◌, ◌||◌, List, [], ◌∷◌, length, drop, nat_le, nat_lt, take_while, encode_utf8_all, Option, Some, None, option_map, if◌then◌else◌}
use Rattle.tokens.specs.Alphabet.{one_of, begins_with, is_among}
use Rattle.regular_expressions.specs.Characters.{Number, is_id_start, is_id_continue, unicode_escape}

-- IdentifierStartChar and IdentifierPartChar (12.7): U+200C and U+200D are ZWNJ and ZWJ
abbrev pub is_start : ℕ → Bool
is_start c = one_of "$_" c || is_id_start c

abbrev pub is_part : ℕ → Bool
is_part c = one_of "$" c || is_id_continue c || is_among c (0x200C ∷ 0x200D ∷ [])

abbrev pub name_escape : List ℕ → Option Number
name_escape [] = None
name_escape (c ∷ cs) = if one_of "u" c then unicode_escape true cs else None

abbrev pub name_character : ℕ → List ℕ → Option Number
name_character c cs = if one_of "\\" c then name_escape cs else Some (c, cs)

-- a code point that is no surrogate
abbrev pub is_character : ℕ → Bool
is_character c = nat_lt c 0xD800 || (nat_le 0xE000 c && nat_le c 0x10FFFF)

-- RegExpIdentifierStart, or RegExpIdentifierPart
abbrev pub stands_in_name : Bool → ℕ → Bool
stands_in_name true c = is_character c && is_start c
stands_in_name false c = is_character c && is_part c

abbrev pub with_character : Bool → Option Number → Option (List ℕ) → Option (List ℕ)
with_character first None name = None
with_character first (Some (c, rest)) name = if stands_in_name first c then option_map (λ cs. c ∷ cs) name else None

-- how many of the characters were read
abbrev pub read_of : List ℕ → Option Number → ℕ
read_of cs None = 0
read_of cs (Some (v, rest)) = length cs - length rest

abbrev pub name_end : Bool → Option (List ℕ)
name_end true = None
name_end false = Some []

-- the characters that a whole text spells as a RegExpIdentifierName, or as its rest; so many that stand next were read already
abbrev pub name_from : Bool → ℕ → List ℕ → Option (List ℕ)
name_from first read [] = name_end first
name_from first (suc read) (c ∷ cs) = name_from first read cs
name_from first zero (c ∷ cs) = with_character first (name_character c cs) (name_from false (read_of cs (name_character c cs)) cs)

abbrev pub name_before : Option (List ℕ) → List ℕ → Option (List ℕ × List ℕ)
name_before None behind = None
name_before (Some name) behind = Some (encode_utf8_all name, behind)

abbrev pub name_between : List ℕ → List ℕ → Option (List ℕ × List ℕ)
name_between word behind = if begins_with (one_of ">") behind then name_before (name_from true 0 word) (drop 1 behind) else None

abbrev pub is_no_end : ℕ → Bool
is_no_end c = not (one_of ">" c)

-- behind the `<`: the name, in UTF-8, and the text behind the `>`
abbrev pub group_name : List ℕ → Option (List ℕ × List ℕ)
group_name text = name_between (take_while is_no_end text) (drop (length (take_while is_no_end text)) text)
