-- A reserved word is looked for among those of its length alone.
use Rattle.std.proofs.Common.{◌≡◌, ◌≢◌, ℕ, ◌≤◌, Bool, true, false, cond, List, [], ◌∷◌, length, refl, sym, ap, ◌∙◌, arith}
use Rattle.std.specs.Prelude.{◌||◌, nat_eq, nat_le, filter, codes}
use Rattle.std.proofs.lemmas.Slice.Eq.{bytes_eq-Decides}
use Rattle.std.proofs.lemmas.Bool.{false≢true}
use Rattle.std.proofs.lemmas.Bool.Decides.{nat_tests}
use Prim.Native.String.{String}
use Rattle.language.specs.Vocabulary.{is, among, is_reserved, reserved_words}

-- the words whose length is so
abbrev pub where_length : (ℕ → Bool) → List String → List String
where_length p ss = filter (λ s. p (length (codes s))) ss

other_length : (p : ℕ → Bool) (w : List ℕ) (s : String) → p (length w) ≡ true → (b : Bool) → is w s ≡ b → p (length (codes s)) ≡ false → b ≡ false
other_length p w s h false e g = refl
other_length p w s h true e g =
    let same : w ≡ codes s = (bytes_eq-Decides w (codes s)).0 e in
    absurd (false≢true (sym g ∙ (ap (λ v. p (length v)) (sym same) ∙ h)))

one_more : (p : ℕ → Bool) (w : List ℕ) (s : String) (ss ts : List String) → p (length w) ≡ true → among w ss ≡ among w ts → (b : Bool) → p (length (codes s)) ≡ b →
    among w (s ∷ ss) ≡ among w (cond b (s ∷ ts) ts)
one_more p w s ss ts g h true e = ap (λ c. is w s || c) h
one_more p w s ss ts g h false e = ap (λ c. c || among w ss) (other_length p w s g (is w s) refl e) ∙ h

pub among-where : (p : ℕ → Bool) (w : List ℕ) (ss : List String) → p (length w) ≡ true → among w ss ≡ among w (where_length p ss)
among-where p w [] h = refl
among-where p w (s ∷ ss) h = one_more p w s ss (where_length p ss) h (among-where p w ss h) (p (length (codes s))) refl

pub reserved-at : (w : List ℕ) (n : ℕ) → length w ≡ n → nat_eq n n ≡ true → is_reserved w ≡ among w (where_length (λ k. nat_eq k n) reserved_words)
unfolding is_reserved
reserved-at w n e r = among-where (λ k. nat_eq k n) w reserved_words (ap (λ k. nat_eq k n) e ∙ r)

-- no reserved word is shorter or longer
abbrev unusual : ℕ → Bool
unusual k = nat_le k 1 || nat_le 11 k

pub none_reserved : (w : List ℕ) → ((k : ℕ) → 2 ≤ k → k ≤ 10 → k ≢ length w) → is_reserved w ≡ false
unfolding is_reserved
none_reserved w h = among-where unusual w reserved_words (apart (length w) (h (length w)))
  where
    apart : (n : ℕ) → (2 ≤ n → n ≤ 10 → n ≢ n) → unusual n ≡ true
    apart n h = grind (arith, nat_tests)
