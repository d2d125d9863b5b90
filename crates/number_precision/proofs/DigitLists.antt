-- Digits without their zeros, as loops go over them.
use Rattle.std.proofs.Common.{◌≡◌, ℕ, suc, ◌+◌, ◌<◌, ◌≤◌, List, [], ◌∷◌, ◌++◌, true, false, length, take, get_or, refl, sym, ap, ◌∙◌, add-one, take-suc, Bool, ◌*◌, subst, arith, eqb-true}
use Rattle.std.proofs.lemmas.Bool.Decides.{nat_tests}
use Rattle.tokens.specs.Alphabet.{one_of}
use Rattle.number_precision.specs.Digits.{behind_digit, trimmed, without_zeros}
use Rattle.std.specs.Prelude.{⊤, if◌then◌else◌}
use Rattle.std.specs.Char.{digit_value, is_ascii_digit}
use Rattle.std.specs.Str.Parse.{AllDigits, digits_value, digits_value_after}
use Rattle.number_precision.specs.Precision.{significant_of}

pub trimmed-zero : (xs : List ℕ) (c : ℕ) → one_of "0" c ≡ true → trimmed (xs ++ (c ∷ [])) ≡ trimmed xs
trimmed-zero [] c z = ap (λ b. if b then [] else c ∷ []) z
trimmed-zero (x ∷ xs) c z = ap (behind_digit x) (trimmed-zero xs c z)

behind-kept : (x : ℕ) (xs : List ℕ) (c : ℕ) → behind_digit x (xs ++ (c ∷ [])) ≡ x ∷ (xs ++ (c ∷ []))
behind-kept x [] c = refl
behind-kept x (y ∷ ys) c = refl

pub trimmed-kept : (xs : List ℕ) (c : ℕ) → one_of "0" c ≡ false → trimmed (xs ++ (c ∷ [])) ≡ xs ++ (c ∷ [])
trimmed-kept [] c z = ap (λ b. if b then [] else c ∷ []) z
trimmed-kept (x ∷ xs) c z = ap (behind_digit x) (trimmed-kept xs c z) ∙ behind-kept x xs c

-- the first digits, up to one before a place
module _ (cs : List ℕ) (i d : ℕ) (l : i < length cs) where
  last_apart : take (suc i) cs ≡ take i cs ++ (get_or cs i d ∷ [])
  last_apart = take-suc cs i d l

  pub end-turn : one_of "0" (get_or cs i d) ≡ true → trimmed (take i cs) ≡ trimmed (take (suc i) cs)
  end-turn z = sym (ap trimmed last_apart ∙ trimmed-zero (take i cs) (get_or cs i d) z)

  pub end-kept : one_of "0" (get_or cs i d) ≡ false → take (suc i) cs ≡ trimmed (take (suc i) cs)
  end-kept z = last_apart ∙ sym (ap trimmed last_apart ∙ trimmed-kept (take i cs) (get_or cs i d) z)

-- what is left of digits is digits, none or from one on that isn't zero
abbrev pub Starts : List ℕ → Type 0
Starts [] = ⊤
Starts (c ∷ cs) = one_of "0" c ≡ false

pub record Left (ds kept : List ℕ) : Type 0 where
  pub digits : AllDigits 10 kept
  pub starts : Starts kept
  pub shorter : length kept ≤ length ds
  pub nothing : length kept ≡ 0 → digits_value 10 ds ≡ 0

pub zero_first : (c : ℕ) (cs : List ℕ) → one_of "0" c ≡ true → digits_value 10 (c ∷ cs) ≡ digits_value 10 cs
zero_first c cs z = ap (λ x. digits_value_after 10 (0 * 10 + digit_value x) cs) (eqb-true c 48 z)

by_first : (c : ℕ) (cs : List ℕ) (b : Bool) → one_of "0" c ≡ b → AllDigits 10 (c ∷ cs) → Left cs (without_zeros cs) → Left (c ∷ cs) (if b then without_zeros cs else c ∷ cs)
by_first c cs true z a left = record { digits = left.digits; starts = left.starts; shorter = let s = left.shorter in omega (arith, s); nothing = λ e. zero_first c cs z ∙ left.nothing e }
by_first c cs false z a left = record { digits = a; starts = z; shorter = omega arith; nothing = λ e. absurd (none e) }
  where
    none : length (c ∷ cs) ≡ 0 → ⊥
    none e = omega (arith, e)

behind_zeros : (ds : List ℕ) → AllDigits 10 ds → Left ds (without_zeros ds)
behind_zeros [] a = record { digits = tt; starts = tt; shorter = omega arith; nothing = λ e. refl }
behind_zeros (c ∷ cs) a = by_first c cs (one_of "0" c) refl a (behind_zeros cs a.1)

behind-first : (c : ℕ) (ds : List ℕ) → one_of "0" c ≡ false → behind_digit c ds ≡ c ∷ ds
behind-first c [] z = ap (λ b. if b then [] else c ∷ []) z
behind-first c (d ∷ ds) z = refl

trimmed-digits : (ds : List ℕ) → AllDigits 10 ds → AllDigits 10 (trimmed ds)
trimmed-digits [] a = tt
trimmed-digits (c ∷ cs) a = before c (trimmed cs) a.0 (trimmed-digits cs a.1)
  where
    first : (c : ℕ) (b : Bool) → digit_value c < 10 → AllDigits 10 (if b then [] else c ∷ [])
    first c true d = tt
    first c false d = (d, tt)

    before : (c : ℕ) (ds : List ℕ) → digit_value c < 10 → AllDigits 10 ds → AllDigits 10 (behind_digit c ds)
    before c [] d a = first c (one_of "0" c) d
    before c (e ∷ es) d a = (d, a)

pub trimmed-shorter : (ds : List ℕ) → length (trimmed ds) ≤ length ds
trimmed-shorter [] = omega arith
trimmed-shorter (c ∷ cs) = let s = trimmed-shorter cs in let l = before c (trimmed cs) in omega (arith, s, l)
  where
    first : (c : ℕ) (b : Bool) → length (if b then [] else c ∷ []) ≤ 1
    first c true = omega arith
    first c false = omega arith

    before : (c : ℕ) (ds : List ℕ) → length (behind_digit c ds) ≤ length ds + 1
    before c [] = first c (one_of "0" c)
    before c (e ∷ es) = omega arith

trimmed-left : (ds kept : List ℕ) → Left ds kept → Left ds (trimmed kept)
trimmed-left ds [] left = left
trimmed-left ds (c ∷ cs) left =
    let e = behind-first c (trimmed cs) left.starts in
    let s = trimmed-shorter (c ∷ cs) in
    let l = left.shorter in
    record {
      digits = trimmed-digits (c ∷ cs) left.digits;
      starts = subst Starts (sym e) left.starts;
      shorter = omega (arith, s, l);
      nothing = λ z. absurd (none (trimmed cs) (sym (ap length e) ∙ z));
    }
  where
    none : (es : List ℕ) → length (c ∷ es) ≡ 0 → ⊥
    none es z = omega (arith, z)

pub left_of : (point : Bool) (ds : List ℕ) → AllDigits 10 ds → Left ds (significant_of point (without_zeros ds))
left_of true ds a = behind_zeros ds a
left_of false ds a = trimmed-left ds (without_zeros ds) (behind_zeros ds a)

pub significant-shorter : (point : Bool) (ds : List ℕ) → length (significant_of point ds) ≤ length ds
significant-shorter true ds = omega arith
significant-shorter false ds = trimmed-shorter ds

positive_digit : (c : ℕ) → digit_value c < 10 → one_of "0" c ≡ false → 0 < digit_value c
positive_digit c d z = grind (arith, nat_tests)

pub first_positive : (ds kept : List ℕ) → Left ds kept → 0 < length kept → 0 < digits_value 10 (take 1 kept)
first_positive ds [] left s = absurd (none s)
  where
    none : 0 < 0 → ⊥
    none h = omega (arith, h)
first_positive ds (c ∷ cs) left s = behind_nothing (digit_value c) (positive_digit c left.digits.0 left.starts)
  where
    behind_nothing : (n : ℕ) → 0 < n → 0 < 0 * 10 + n
    behind_nothing n h = omega (arith, h)

pub joined-digits : (xs ys : List ℕ) → AllDigits 10 xs → AllDigits 10 ys → AllDigits 10 (xs ++ ys)
joined-digits [] ys a b = b
joined-digits (x ∷ xs) ys a b = (a.0, joined-digits xs ys a.1 b)

pub digit_range : (c : ℕ) → is_ascii_digit c ≡ true → digit_value c < 10
digit_range c d = grind (arith, nat_tests)

pub one_more : (cs : List ℕ) (i d : ℕ) → i < length cs → AllDigits 10 (take i cs) → digit_value (get_or cs i d) < 10 → AllDigits 10 (take (i + 1) cs)
one_more cs i d l a h = subst (AllDigits 10) (sym (ap (λ n. take n cs) (add-one i) ∙ take-suc cs i d l)) (joined-digits (take i cs) (get_or cs i d ∷ []) a (h, tt))
