-- Lines and columns of a text, by its characters (ECMA-262 11.3). Both count from 1.
use Rattle.std.specs.Prelude.{ℕ, ◌+◌, Bool, ◌==◌, ◌&&◌, ◌||◌, not, List, [], ◌∷◌, ◌++◌, take, drop, if◌then◌else◌}
use Rattle.std.specs.Str.{chars}

-- a line feed, a carriage return, a line separator or a paragraph separator
abbrev pub is_line_terminator : ℕ → Bool
is_line_terminator c = (c == 10) || (c == 13) || (c == 0x2028) || (c == 0x2029)

-- whether a line ends behind a character, where others follow: not between a carriage return and a line feed, which are one line end
abbrev pub ends_line : ℕ → List ℕ → Bool
ends_line c [] = is_line_terminator c
ends_line c (d ∷ ds) = is_line_terminator c && not (c == 13 && d == 10)

-- line and column behind a character, from those before it, where others follow
abbrev pub after_character : ℕ × ℕ → ℕ → List ℕ → ℕ × ℕ
after_character before c following = if ends_line c following then (before.0 + 1, 1) else (before.0, before.1 + 1)

-- line and column behind several characters
abbrev pub after_characters : ℕ × ℕ → List ℕ → List ℕ → ℕ × ℕ
after_characters before [] following = before
after_characters before (c ∷ cs) following = after_characters (after_character before c (cs ++ following)) cs following

-- line and column of a place of a text
unfoldable pub line_column : List ℕ → ℕ → ℕ × ℕ
line_column text offset = after_characters (1, 1) (chars (take offset text)) (chars (drop offset text))
