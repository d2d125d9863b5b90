-- Worked examples, right and wrong ones.
use Rattle.std.specs.Prelude.{◌≡◌, [], ◌∷◌, refl}
use Rattle.std.specs.Str.{chars}
use Rattle.source_text.specs.Lines.{line_column}

-- a U+2028 b, at b
separator : line_column (97 ∷ 226 ∷ 128 ∷ 168 ∷ 98 ∷ []) 4 ≡ (2, 1)
unfolding line_column chars
separator = refl

-- é, a space and b, at b
accent : line_column (195 ∷ 169 ∷ 32 ∷ 98 ∷ []) 3 ≡ (1, 3)
unfolding line_column chars
accent = refl

-- a CR LF b, between CR and LF and at b
between : line_column (97 ∷ 13 ∷ 10 ∷ 98 ∷ []) 2 ≡ (1, 3)
unfolding line_column chars
between = refl

behind_both : line_column (97 ∷ 13 ∷ 10 ∷ 98 ∷ []) 3 ≡ (2, 1)
unfolding line_column chars
behind_both = refl

-- a CR, at the end
behind_return : line_column (97 ∷ 13 ∷ []) 2 ≡ (2, 1)
unfolding line_column chars
behind_return = refl
