-- The value of a string literal's text, which is in UTF-8: its UTF-16 code units (SV in ECMA-262 11.8.4).
use Rattle.std.specs.Prelude.{ℕ, zero, suc, ◌+◌, ◌-◌, ◌*◌, cond, List, [], ◌∷◌, nat_lt}
use Rattle.tokens.specs.Strings.{string_units}

-- the code points of a text in UTF-8: so many bytes of the first are still to come, behind this value of the others
abbrev pub points_from : ℕ → ℕ → List ℕ → List ℕ
points_from n v [] = []
points_from zero v (c ∷ cs) =
    cond (nat_lt c 0x80) (c ∷ points_from 0 0 cs) (
    cond (nat_lt c 0xE0) (points_from 1 (c - 0xC0) cs) (
    cond (nat_lt c 0xF0) (points_from 2 (c - 0xE0) cs) (points_from 3 (c - 0xF0) cs)))
points_from (suc zero) v (c ∷ cs) = (v * 64 + (c - 0x80)) ∷ points_from 0 0 cs
points_from (suc (suc n)) v (c ∷ cs) = points_from (suc n) (v * 64 + (c - 0x80)) cs

abbrev pub points : List ℕ → List ℕ
points text = points_from 0 0 text

abbrev pub literal_units : List ℕ → List ℕ
literal_units text = string_units (points text)
