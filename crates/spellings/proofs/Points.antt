-- The code points of a text are its characters, whatever the bytes.
use Rattle.std.proofs.Common.{◌≡◌, ℕ, zero, suc, ◌+◌, ◌*◌, ◌-◌, Bool, true, false, cond, List, [], ◌∷◌, refl, ap, ◌∙◌}
use Rattle.std.specs.Prelude.{nat_lt}
use Rattle.std.specs.Str.{chars, chars_after, continuation_len, lead_bits}
use Rattle.language.specs.Strings.{points, points_from}

abbrev ahead : ℕ → ℕ → List ℕ → List ℕ
ahead zero v bs = v ∷ points_from 0 0 bs
ahead (suc n) v bs = points_from (suc n) v bs

same : (n v : ℕ) (bs : List ℕ) → chars_after n v bs ≡ ahead n v bs
same zero v [] = refl
same zero v (b ∷ bs) = ap (λ l. v ∷ l) (same (continuation_len b) (lead_bits b) bs ∙ lead (nat_lt b 128) (nat_lt b 224) (nat_lt b 240))
  where
    lead : (x y z : Bool) → ahead (cond x 0 (cond y 1 (cond z 2 3))) (cond x b (cond y (b - 192) (cond z (b - 224) (b - 240)))) bs ≡
        cond x (b ∷ points_from 0 0 bs) (cond y (points_from 1 (b - 192) bs) (cond z (points_from 2 (b - 224) bs) (points_from 3 (b - 240) bs)))
    lead true y z = refl
    lead false true z = refl
    lead false false true = refl
    lead false false false = refl
same (suc zero) v [] = refl
same (suc (suc n)) v [] = refl
same (suc zero) v (b ∷ bs) = same zero (v * 64 + (b - 128)) bs
same (suc (suc n)) v (b ∷ bs) = same (suc n) (v * 64 + (b - 128)) bs

pub points_are_chars : (w : List ℕ) → points w ≡ chars w
unfolding chars
points_are_chars [] = refl
points_are_chars (b ∷ bs) = cc (same zero 0 (b ∷ bs))
