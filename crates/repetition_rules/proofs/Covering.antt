-- What covers what, and which last operands tell it.
use Rattle.std.proofs.Common.{◌≡◌, ℕ, List, [], ◌∷◌, ◌++◌, Bool, true, false, refl, sym, ap, ◌∙◌, map}
use Rattle.std.specs.Prelude.{◌&&◌, ◌||◌}
use Rattle.std.specs.List.{list_any, list_all}
use Rattle.std.specs.Str.{bytes_eq}
use Rattle.std.proofs.lemmas.List.Folds.{list_any-append, list_all-append}
use Rattle.repetition_rules.specs.Tests.{Choice, is_among, is_covered, is_covered_by}
use Rattle.repetition_rules.specs.Chains.{Asking, asked_before, is_full, is_last_of, last_of}

pub last-behind : (xs : Choice) (x : List ℕ) → last_of (xs ++ x ∷ []) ≡ x
last-behind [] x = refl
last-behind (y ∷ []) x = refl
last-behind (y ∷ z ∷ zs) x = last-behind (z ∷ zs) x

or-true : (b : Bool) → (b || true) ≡ true
or-true true = refl
or-true false = refl

or-false : (b : Bool) → (b || false) ≡ b
or-false true = refl
or-false false = refl

and-true : (b : Bool) → (b && true) ≡ b
and-true true = refl
and-true false = refl

and-false : (b : Bool) → (b && false) ≡ false
and-false true = refl
and-false false = refl

-- one of several, the last of them by itself
module _ {X : Type 0} (p : List ℕ → Bool) (h : X → List ℕ) (xs : List X) (y : List ℕ) where
  any-mapped : (ys : List X) → list_any p (map h ys) ≡ list_any (λ x. p (h x)) ys
  any-mapped [] = refl
  any-mapped (z ∷ zs) = ap (λ b. p (h z) || b) (any-mapped zs)

  all-mapped : (ys : List X) → list_all p (map h ys) ≡ list_all (λ x. p (h x)) ys
  all-mapped [] = refl
  all-mapped (z ∷ zs) = ap (λ b. p (h z) && b) (all-mapped zs)

  any-last : list_any p (map h xs ++ y ∷ []) ≡ (list_any (λ x. p (h x)) xs || (p y || false))
  any-last = list_any-append p (map h xs) (y ∷ []) ∙ ap (λ b. b || (p y || false)) (any-mapped xs)

  all-last : list_all p (map h xs ++ y ∷ []) ≡ (list_all (λ x. p (h x)) xs && (p y && true))
  all-last = list_all-append p (map h xs) (y ∷ []) ∙ ap (λ b. b && (p y && true)) (all-mapped xs)

  pub any-at-last : p y ≡ true → list_any p (map h xs ++ y ∷ []) ≡ true
  any-at-last e = any-last ∙ ap (λ b. list_any (λ x. p (h x)) xs || (b || false)) e ∙ or-true (list_any (λ x. p (h x)) xs)

  pub any-before-last : p y ≡ false → list_any p (map h xs ++ y ∷ []) ≡ list_any (λ x. p (h x)) xs
  any-before-last e = any-last ∙ ap (λ b. list_any (λ x. p (h x)) xs || (b || false)) e ∙ or-false (list_any (λ x. p (h x)) xs)

  pub all-with-last : p y ≡ true → list_all p (map h xs ++ y ∷ []) ≡ list_all (λ x. p (h x)) xs
  all-with-last e = all-last ∙ ap (λ b. list_all (λ x. p (h x)) xs && (b && true)) e ∙ and-true (list_all (λ x. p (h x)) xs)

  pub not-all-at-last : p y ≡ false → list_all p (map h xs ++ y ∷ []) ≡ false
  not-all-at-last e = all-last ∙ ap (λ b. list_all (λ x. p (h x)) xs && (b && true)) e ∙ and-false (list_all (λ x. p (h x)) xs)

-- what all tests before ask, test by test
pub covered-by-tests : (before : List Asking) (choice : Choice) → is_covered (asked_before before) choice ≡ list_any (λ x. is_covered x.whole choice) before
covered-by-tests [] choice = refl
covered-by-tests (x ∷ xs) choice = list_any-append (λ earlier. is_covered_by choice earlier) x.whole (asked_before xs) ∙ ap (λ b. is_covered x.whole choice || b) (covered-by-tests xs choice)

left-at : (p q : List ℕ → Bool) (xs : Choice) (a b : Bool) → (list_any p xs ≡ true → list_any (λ x. p x || q x) xs ≡ true) → (a || list_any p xs) ≡ true → ((a || b) || list_any (λ x. p x || q x) xs) ≡ true
left-at p q xs true b f h = refl
left-at p q xs false true f h = refl
left-at p q xs false false f h = f h

any-left : (p q : List ℕ → Bool) (xs : Choice) → list_any p xs ≡ true → list_any (λ x. p x || q x) xs ≡ true
any-left p q [] e = e
any-left p q (x ∷ xs) e = left-at p q xs (p x) (q x) (any-left p q xs) e

right-at : (p q : List ℕ → Bool) (xs : Choice) (a b : Bool) → (list_any q xs ≡ true → list_any (λ x. p x || q x) xs ≡ true) → (b || list_any q xs) ≡ true → ((a || b) || list_any (λ x. p x || q x) xs) ≡ true
right-at p q xs true b f h = refl
right-at p q xs false true f h = refl
right-at p q xs false false f h = f h

any-right : (p q : List ℕ → Bool) (xs : Choice) → list_any q xs ≡ true → list_any (λ x. p x || q x) xs ≡ true
any-right p q [] e = e
any-right p q (x ∷ xs) e = right-at p q xs (p x) (q x) (any-right p q xs) e

second-true : (a b : Bool) → (a && b) ≡ true → b ≡ true
second-true true b h = h
second-true false b h = absurd (cc)

-- the last operand of what covers is among those of what is covered
last-among : (choice earlier : Choice) → is_full earlier ≡ true → is_covered_by choice earlier ≡ true → is_among choice (last_of earlier) ≡ true
last-among choice [] f e = absurd (cc)
last-among choice (x ∷ []) f e = sym (and-true (is_among choice x)) ∙ e
last-among choice (x ∷ y ∷ ys) f e = last-among choice (y ∷ ys) refl (second-true (is_among choice x) (is_covered_by choice (y ∷ ys)) e)

last-by : (c : Choice) (cs : List Choice) (choice : Choice) (full : Bool) → is_full c ≡ full → (covered : Bool) → is_covered_by choice c ≡ covered
    → (list_all (λ x. is_full x) cs ≡ true → is_covered cs choice ≡ true → list_any (λ w. is_last_of cs w) choice ≡ true)
    → (full && list_all (λ x. is_full x) cs) ≡ true → (covered || is_covered cs choice) ≡ true → list_any (λ w. bytes_eq w (last_of c) || is_last_of cs w) choice ≡ true
last-by c cs choice true g true d f h i = any-left (λ w. bytes_eq w (last_of c)) (λ w. is_last_of cs w) choice (last-among choice c g d)
last-by c cs choice true g false d f h i = any-right (λ w. bytes_eq w (last_of c)) (λ w. is_last_of cs w) choice (f h i)
last-by c cs choice false g covered d f h i = absurd (cc)

-- so what is covered has the last operand of one before
pub has-last : (before : List Choice) (choice : Choice) → list_all (λ c. is_full c) before ≡ true → is_covered before choice ≡ true → list_any (λ w. is_last_of before w) choice ≡ true
has-last [] choice f e = absurd (cc)
has-last (c ∷ cs) choice f e = last-by c cs choice (is_full c) refl (is_covered_by choice c) refl (has-last cs choice) f e

any-same : (p q : List ℕ → Bool) → ((w : List ℕ) → p w ≡ q w) → (xs : Choice) → list_any p xs ≡ list_any q xs
any-same p q same [] = refl
any-same p q same (x ∷ xs) = ap (λ b. b || list_any p xs) (same x) ∙ ap (λ b. q x || b) (any-same p q same xs)

false-or-not : (b c : Bool) → c ≡ false → (b ≡ true → c ≡ true) → false ≡ b
false-or-not false c e f = refl
false-or-not true c e f = sym e ∙ f refl

-- a choice without such an operand isn't covered
pub not-covered : (p : List ℕ → Bool) (before : List Choice) (choice : Choice) → list_all (λ c. is_full c) before ≡ true → ((w : List ℕ) → p w ≡ is_last_of before w) → list_any p choice ≡ false → false ≡ is_covered before choice
not-covered p before choice f same e =
    false-or-not (is_covered before choice) (list_any p choice) e (λ h. any-same p (λ w. is_last_of before w) same choice ∙ has-last before choice f h)
