-- What is written of a text, piece by piece.
use Rattle.std.proofs.Common.{◌≡◌, ℕ, zero, suc, ◌+◌, ◌≤◌, Bool, List, [], ◌∷◌, ◌++◌, length, take, Option, refl, sym, ap, ◌∙◌, subst, append_assoc, length-append, arith}
use Rattle.std.specs.Prelude.{Result, Ok, Err}
use Rattle.std.specs.Io.KnownBytes.{Appends}
use Rattle.std.proofs.KnownBytes.{Appends-trans}
use Rattle.source_text.specs.declared.sink.DeviceFault.{DeviceFault}
use Rattle.source_text.specs.Writing.{AppendsBeginning, WritesText}
use Rattle.command_line.specs.Sent.{Sent}

take_within : (r s : List ℕ) (n : ℕ) → n ≤ length r → take n (r ++ s) ≡ take n r
take_within r s zero h = refl
take_within [] s (suc n) h = absurd (omega (arith, h))
take_within (x ∷ xs) s (suc n) h = ap (λ w. x ∷ w) (take_within xs s n (omega (arith, h)))

take_behind : (p t : List ℕ) (n : ℕ) → take (length p + n) (p ++ t) ≡ p ++ take n t
take_behind [] t n = let z : 0 + n ≡ n = omega arith in ap (λ k. take k t) z
take_behind (x ∷ xs) t n = let z : suc (length xs) + n ≡ suc (length xs + n) = omega arith in ap (λ k. take k (x ∷ (xs ++ t))) z ∙ ap (λ w. x ∷ w) (take_behind xs t n)

-- a beginning of a text is one of a longer text
pub longer : (b a : Option (List ℕ)) (r s whole : List ℕ) → whole ≡ r ++ s → AppendsBeginning b a r → AppendsBeginning b a whole
longer b a r s whole e (n, low, h) =
    subst (AppendsBeginning b a) (sym e) (n, omega (arith, low, length-append r s), subst (Appends b a) (sym (take_within r s n low)) h)

-- and one behind what was written
behind : (b m a : Option (List ℕ)) (p r whole : List ℕ) → p ++ r ≡ whole → Appends b m p → AppendsBeginning m a r → AppendsBeginning b a whole
behind b m a p r whole e h (n, low, g) =
    subst (AppendsBeginning b a) e (
      length p + n,
      omega (arith, low, length-append p r),
      subst (Appends b a) (sym (take_behind p r n)) (Appends-trans b m a p (take n r) h g),
    )

-- of what waited something was written, and more waits behind it
pub sent_more : (b m a : Option (List ℕ)) (waiting left filled text more longer : List ℕ)
    → Sent b m waiting text → Sent m a left waiting → filled ≡ left ++ more → longer ≡ text ++ more → Sent b a filled longer
sent_more b m a waiting left filled text more longer (p, h, is) (r, g, was) e f = (
  p ++ r,
  Appends-trans b m a p r h g,
  append_assoc p r filled
      ∙ ap (λ w. p ++ w) (ap (λ w. r ++ w) e ∙ sym (append_assoc r left more) ∙ ap (λ w. w ++ more) was)
      ∙ sym (append_assoc p waiting more) ∙ ap (λ w. w ++ more) is ∙ sym f,
)

-- a beginning of what waits was written
pub sent_begun : (b m a : Option (List ℕ)) (waiting text rest whole : List ℕ) → Sent b m waiting text → whole ≡ text ++ rest → AppendsBeginning m a waiting → AppendsBeginning b a whole
sent_begun b m a waiting text rest whole (p, h, is) e g = longer b a text rest whole e (behind b m a p waiting text is h g)

-- what waits was written, or a beginning of it
pub sent_last : (b m a : Option (List ℕ)) (waiting whole : List ℕ) (o : Result (Unit {0}) DeviceFault) (failed : Bool) → Sent b m waiting whole → WritesText waiting o m a failed → WritesText whole o b a failed
sent_last b m a waiting whole (Ok u) failed (p, h, is) (g, well) = (subst (Appends b a) is (Appends-trans b m a p waiting h g), well)
sent_last b m a waiting whole (Err x) failed (p, h, is) (g, ill) = (behind b m a p waiting whole is h g, ill)
