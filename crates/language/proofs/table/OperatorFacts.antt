-- What is known of every operator.
use Rattle.std.proofs.Common.{◌≡◌, ℕ, ◌≤◌, ◌<◌, Bool, true, false, List, [], ◌∷◌, ◌++◌, cond, refl, sym, ap, ◌∙◌, arith}
use Rattle.std.specs.Prelude.{◌&&◌, ◌||◌, not, nat_le, nat_lt, nat_eq}
use Prim.Native.String.{String}
use Rattle.std.proofs.lemmas.Bool.{and_parts, false≢true}
use Rattle.std.proofs.lemmas.Bool.Decides.{nat_tests}
use Rattle.language.specs.declared.Rank.{Rank}
use Rattle.language.specs.Vocabulary.{precedence, is, among, is_update_op, op_update, Operator, op_binary, op_none, operators, operator_among, operator_of}

-- The right side of an operator is tighter, and behind `??` it is tighter than `&&`; both stand between `??` and `**`.
abbrev pub climbs : Operator → Bool
climbs (op_binary l z q) = nat_le 4 (precedence z) && (nat_lt (precedence z) (precedence q) && (nat_le (precedence q) 15 && (not (nat_eq (precedence z) 4) || nat_le 7 (precedence q))))
climbs _ = true

abbrev pub each_meets : (Operator → Bool) → List (List String × Operator) → Bool
each_meets test [] = true
each_meets test (row ∷ rows) = test row.1 && each_meets test rows

either_meets : (test : Operator → Bool) (b : Bool) (x y : Operator) → test x ≡ true → test y ≡ true → test (cond b x y) ≡ true
either_meets test true x y h k = h
either_meets test false x y h k = k

-- what a test says of each operator it says of that of a text
pub operator_meets : (test : Operator → Bool) (w : List ℕ) (rows : List (List String × Operator)) → each_meets test rows ≡ true → test op_none ≡ true → test (operator_among w rows) ≡ true
operator_meets test w [] h k = k
operator_meets test w (row ∷ rows) h k = let u = and_parts _ _ h in
    either_meets test (among w row.0) row.1 (operator_among w rows) u.0 (operator_meets test w rows u.1 k)

pub operators_climb : (w : List ℕ) → climbs (operator_of w) ≡ true
operators_climb w = operator_meets climbs w operators refl refl

-- the right side of an operator is tighter, and behind `??` it is tighter than `&&`
abbrev pub Rises : ℕ → ℕ → Type 0
Rises z q = (z < q) × (z ≡ 4 → 7 ≤ q)

pub record Binding (z q : Rank) : Type 0 where
  pub least : 4 ≤ precedence z
  pub most : precedence q ≤ 15
  pub rises : Rises (precedence z) (precedence q)

pub binding_of : (l : Bool) (z q : Rank) → climbs (op_binary l z q) ≡ true → Binding z q
binding_of l z q h = record { least = low (precedence z) (precedence q) h; most = high (precedence z) (precedence q) h; rises = (up (precedence z) (precedence q) h, coalesce (precedence z) (precedence q) h) }
  where
    low : (a b : ℕ) → (nat_le 4 a && (nat_lt a b && (nat_le b 15 && (not (nat_eq a 4) || nat_le 7 b)))) ≡ true → 4 ≤ a
    low a b h = grind (arith, nat_tests)

    high : (a b : ℕ) → (nat_le 4 a && (nat_lt a b && (nat_le b 15 && (not (nat_eq a 4) || nat_le 7 b)))) ≡ true → b ≤ 15
    high a b h = grind (arith, nat_tests)

    up : (a b : ℕ) → (nat_le 4 a && (nat_lt a b && (nat_le b 15 && (not (nat_eq a 4) || nat_le 7 b)))) ≡ true → a < b
    up a b h = grind (arith, nat_tests)

    coalesce : (a b : ℕ) → (nat_le 4 a && (nat_lt a b && (nat_le b 15 && (not (nat_eq a 4) || nat_le 7 b)))) ≡ true → a ≡ 4 → 7 ≤ b
    coalesce a b h e = grind (arith, nat_tests)

-- the symbols of an operator that joins two sides
pub binding : (w : List ℕ) {l : Bool} {z q : Rank} → operator_of w ≡ op_binary l z q → Binding z q
binding w {l} {z} {q} e = binding_of l z q (sym (ap climbs e) ∙ operators_climb w)

-- the texts of the operators that a test takes
abbrev pub texts_of : (Operator → Bool) → List (List String × Operator) → List String
texts_of test [] = []
texts_of test (row ∷ rows) = cond (test row.1) row.0 [] ++ texts_of test rows

among_left : (w : List ℕ) (ss ts : List String) → among w ss ≡ true → among w (ss ++ ts) ≡ true
among_left w [] ts h = cc
among_left w (s ∷ ss) ts h = go (is w s) h (λ j. among_left w ss ts j)
  where
    go : (b : Bool) → (b || among w ss) ≡ true → (among w ss ≡ true → among w (ss ++ ts) ≡ true) → (b || among w (ss ++ ts)) ≡ true
    go true h f = refl
    go false h f = f h

among_right : (w : List ℕ) (ss ts : List String) → among w ts ≡ true → among w (ss ++ ts) ≡ true
among_right w [] ts h = h
among_right w (s ∷ ss) ts h = go (is w s) (among_right w ss ts h)
  where
    go : (b : Bool) → among w (ss ++ ts) ≡ true → (b || among w (ss ++ ts)) ≡ true
    go true h = refl
    go false h = h

-- where a test takes the operator of a text, the text is one of those
pub text_among : (test : Operator → Bool) (w : List ℕ) (rows : List (List String × Operator)) → test op_none ≡ false → test (operator_among w rows) ≡ true → among w (texts_of test rows) ≡ true
text_among test w [] n h = absurd (false≢true (sym n ∙ h))
text_among test w (row ∷ rows) n h = go (among w row.0) refl h (λ j. text_among test w rows n j)
  where
    of_row : (c : Bool) → test row.1 ≡ c → c ≡ true → among w row.0 ≡ true → among w (cond c row.0 [] ++ texts_of test rows) ≡ true
    of_row true e t a = among_left w row.0 (texts_of test rows) a
    of_row false e t a = cc

    go : (b : Bool) → among w row.0 ≡ b → test (cond b row.1 (operator_among w rows)) ≡ true → (test (operator_among w rows) ≡ true → among w (texts_of test rows) ≡ true) → among w (cond (test row.1) row.0 [] ++ texts_of test rows) ≡ true
    go true e t f = of_row (test row.1) refl t e
    go false e t f = among_right w (cond (test row.1) row.0 []) (texts_of test rows) (f t)

-- the texts of `++` and `--`
pub step_texts : (w : List ℕ) → operator_of w ≡ op_update → among w ("++" ∷ "--" ∷ []) ≡ true
step_texts w h = text_among is_update_op w operators refl (ap is_update_op h)
