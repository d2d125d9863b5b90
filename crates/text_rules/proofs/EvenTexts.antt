-- Texts without a byte that may belong to irregular white space.
use Rattle.std.proofs.Common.{◌≡◌, ℕ, zero, suc, ◌+◌, ◌<◌, ◌≤◌, Bool, true, false, List, [], ◌∷◌, ◌++◌, length, drop, get_or, refl, sym, ap, ◌∙◌, subst, arith, add-one}
use Rattle.std.specs.Prelude.{not, ◌&&◌, ◌||◌}
use Rattle.std.specs.List.{list_all, list_any}
use Rattle.std.specs.Str.{IsUtf8, chars}
use Rattle.std.proofs.Math.Seq.{drop-cons}
use Rattle.std.proofs.lemmas.Bool.{false≢true}
use Rattle.std.proofs.lemmas.Bool.Decides.{nat_tests}
use Rattle.std.proofs.lemmas.List.{drop_all}
use Rattle.std.proofs.lemmas.Str.{IsCharBoundary-start}
use Rattle.tokens.specs.Reading.{behind}
use Rattle.tokens.specs.Scanned.{AllPass}
use Rattle.tokens.proofs.TriviaSteps.{all_begins, over_byte}
use Rattle.text_rules.specs.Quiet.{is_odd}
use Rattle.text_rules.specs.Rows.{is_irregular}

abbrev is_even : ℕ → Bool
is_even c = not (is_odd c)

none-true : (a b : Bool) → (a || b) ≡ false → (a ≡ false) × (b ≡ false)
none-true false b h = (refl, h)
none-true true b h = absurd (false≢true (sym h))

both-true : (a b : Bool) → (a && b) ≡ true → (a ≡ true) × (b ≡ true)
both-true true b h = (refl, h)
both-true false b h = absurd (false≢true h)

even-at : (bytes : List ℕ) (n : ℕ) → list_any is_odd bytes ≡ false → n < length bytes → is_odd (get_or bytes n 0) ≡ false
even-at [] n h l = absurd (omega (arith, l))
even-at (b ∷ bs) zero h l = (none-true _ _ h).0
even-at (b ∷ bs) (suc n) h l = even-at bs n (none-true _ _ h).1 (omega (arith, l))

low : (c : ℕ) → is_odd c ≡ false → c < 128
low c h = grind (arith, nat_tests)

regular : (c : ℕ) → is_even c ≡ true → is_irregular c ≡ false
regular c h = grind (arith, nat_tests)

all-even : (text : List ℕ) → IsUtf8 text → list_any is_odd text ≡ false → (n : ℕ) → n ≤ length text → AllPass is_even text 0 n
all-even text u h zero l = all_begins is_even text 0 (IsCharBoundary-start text u)
all-even text u h (suc n) l =
    let e = even-at text n h (omega (arith, l)) in
    subst (AllPass is_even text 0) (add-one n) (over_byte is_even text text 0 n u refl (all-even text u h n (omega (arith, l))) (omega (arith, l)) (low (get_or text n 0) e) (ap not e))

over-word : (word rest : List ℕ) → list_all is_even word ≡ true → list_any is_irregular (word ++ rest) ≡ list_any is_irregular rest
over-word [] rest h = refl
over-word (c ∷ word) rest h =
    let parts = both-true _ _ h in
    ap (λ b. b || list_any is_irregular (word ++ rest)) (regular c parts.0) ∙ over-word word rest parts.1

over-run : (text : List ℕ) (at stop : ℕ) → AllPass is_even text at stop → list_any is_irregular (behind text at) ≡ list_any is_irregular (behind text stop)
over-run text at stop h = ap (list_any is_irregular) h.passed.split ∙ over-word h.word (behind text stop) h.all

pub even-regular : (text : List ℕ) → IsUtf8 text → list_any is_odd text ≡ false → list_any is_irregular (chars text) ≡ false
unfolding chars
even-regular text u h =
    over-run text 0 (length text) (all-even text u h (length text) (omega arith))
    ∙ ap (λ bs. list_any is_irregular (chars bs)) (drop_all (length text) text (omega arith))

-- ---- the loop over bytes

or-nothing : (b : Bool) → (b || false) ≡ b
or-nothing true = refl
or-nothing false = refl

or-more : (a b c : Bool) → ((a || b) || c) ≡ (a || (b || c))
or-more true b c = refl
or-more false b c = refl

pub odd-turn : (bs : List ℕ) (i d : ℕ) (acc new total : Bool) → i < length bs → new ≡ (acc || is_odd (get_or bs i d)) → (acc || list_any is_odd (drop i bs)) ≡ total → (new || list_any is_odd (drop (i + 1) bs)) ≡ total
odd-turn bs i d acc new total l n so =
    rw (add-one i) (
    ap (λ b. b || list_any is_odd (drop (suc i) bs)) n ∙ or-more acc (is_odd (get_or bs i d)) (list_any is_odd (drop (suc i) bs))
    ∙ ap (λ ys. acc || list_any is_odd ys) (sym (drop-cons bs i d l)) ∙ so
    )

pub odd-end : (bs : List ℕ) (i : ℕ) (acc total : Bool) → length bs ≤ i → (acc || list_any is_odd (drop i bs)) ≡ total → acc ≡ total
odd-end bs i acc total l so = sym (or-nothing acc) ∙ ap (λ ys. acc || list_any is_odd ys) (sym (drop_all i bs l)) ∙ so
