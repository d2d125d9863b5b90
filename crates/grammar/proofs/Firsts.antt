-- A text among others of a table: by a test, and by its first byte.
use Rattle.std.proofs.Common.{◌≡◌, ◌⊎◌, inl, inr, ℕ, Bool, true, false, cond, List, [], ◌∷◌, refl, sym, ap, ◌∙◌, arith}
use Rattle.std.specs.Prelude.{not, ◌||◌, nat_eq, slice_index_or, filter, codes}
use Rattle.std.proofs.lemmas.Bool.{false≢true}
use Rattle.std.proofs.lemmas.Bool.Decides.{nat_tests}
use Rattle.std.proofs.lemmas.Slice.Eq.{bytes_eq-Decides}
use Prim.Native.String.{String}
use Rattle.language.specs.Vocabulary.{is, among}
use Rattle.grammar.specs.OperatorRows.{begins_with}

-- a text is looked for among those alone that pass a test, where it passes
pub among_only : (p : List ℕ → Bool) (w : List ℕ) (ss : List String) → p w ≡ true → among w ss ≡ among w (filter (λ s. p (codes s)) ss)
among_only p w [] h = refl
among_only p w (s ∷ ss) h = of (among_only p w ss h) (p (codes s)) refl
  where
    other : (b : Bool) → is w s ≡ b → p (codes s) ≡ false → b ≡ false
    other false e k = refl
    other true e k = absurd (false≢true (sym k ∙ ap p (sym ((bytes_eq-Decides w (codes s)).0 e)) ∙ h))

    of : among w ss ≡ among w (filter (λ s. p (codes s)) ss) → (b : Bool) → p (codes s) ≡ b → among w (s ∷ ss) ≡ among w (cond b (s ∷ filter (λ s. p (codes s)) ss) (filter (λ s. p (codes s)) ss))
    of rest true e = ap (λ c. is w s || c) rest
    of rest false e = ap (λ c. c || among w ss) (other (is w s) refl e) ∙ rest

-- and isn't found among those, where it doesn't
pub among_none : (p : List ℕ → Bool) (w : List ℕ) (ss : List String) → p w ≡ false → among w (filter (λ s. p (codes s)) ss) ≡ false
among_none p w [] h = refl
among_none p w (s ∷ ss) h = of (among_none p w ss h) (p (codes s)) refl
  where
    other : (b : Bool) → is w s ≡ b → p (codes s) ≡ true → b ≡ false
    other false e k = refl
    other true e k = absurd (false≢true (sym h ∙ ap p ((bytes_eq-Decides w (codes s)).0 e) ∙ k))

    of : among w (filter (λ s. p (codes s)) ss) ≡ false → (b : Bool) → p (codes s) ≡ b → among w (cond b (s ∷ filter (λ s. p (codes s)) ss) (filter (λ s. p (codes s)) ss)) ≡ false
    of rest true e = ap (λ c. c || among w (filter (λ s. p (codes s)) ss)) (other (is w s) refl e) ∙ rest
    of rest false e = rest

-- a byte is one of these; it is none of them
abbrev pub OneByte : ℕ → List ℕ → Type 0
OneByte b [] = ⊥
OneByte b (c ∷ []) = b ≡ c
OneByte b (c ∷ (d ∷ cs)) = (b ≡ c) ⊎ OneByte b (d ∷ cs)

abbrev pub NoByte : ℕ → List ℕ → Type 0
NoByte b [] = Unit {0}
NoByte b (c ∷ cs) = (b ≡ c → ⊥) × NoByte b cs

equal_byte : (a b : ℕ) → a ≡ b → nat_eq a b ≡ true
equal_byte a b h = grind (arith, nat_tests)

other_byte : (a b : ℕ) → (a ≡ b → ⊥) → nat_eq a b ≡ false
other_byte a b h = grind (arith, nat_tests)

or_right : (a b : Bool) → b ≡ true → (a || b) ≡ true
or_right true b h = refl
or_right false b h = h

pub begins : (w : List ℕ) (b : ℕ) (cs : List ℕ) → b ≡ slice_index_or w 0 0 → OneByte b cs → begins_with cs w ≡ true
begins w b [] e h = absurd h
begins w b (c ∷ []) e h = ap (λ x. x || false) (equal_byte (slice_index_or w 0 0) c (sym e ∙ h))
begins w b (c ∷ (d ∷ cs)) e (inl h) = ap (λ x. x || begins_with (d ∷ cs) w) (equal_byte (slice_index_or w 0 0) c (sym e ∙ h))
begins w b (c ∷ (d ∷ cs)) e (inr h) = or_right (nat_eq (slice_index_or w 0 0) c) (begins_with (d ∷ cs) w) (begins w b (d ∷ cs) e h)

-- with none of these
abbrev pub begins_else : List ℕ → List ℕ → Bool
begins_else cs w = not (begins_with cs w)

none_begins : (w : List ℕ) (b : ℕ) (cs : List ℕ) → b ≡ slice_index_or w 0 0 → NoByte b cs → begins_with cs w ≡ false
none_begins w b [] e h = refl
none_begins w b (c ∷ cs) e h =
    ap (λ x. x || begins_with cs w) (other_byte (slice_index_or w 0 0) c (λ k. h.0 (e ∙ k))) ∙ none_begins w b cs e h.1

pub begins_other : (w : List ℕ) (b : ℕ) (cs : List ℕ) → b ≡ slice_index_or w 0 0 → NoByte b cs → begins_else cs w ≡ true
begins_other w b cs e h = ap not (none_begins w b cs e h)

-- the text is none of these
abbrev pub NoneOf : List ℕ → List String → Type 0
NoneOf w [] = Unit {0}
NoneOf w (s ∷ ss) = (w ≡ codes s → ⊥) × NoneOf w ss

pub none_among : (w : List ℕ) (ss : List String) → NoneOf w ss → among w ss ≡ false
none_among w [] h = refl
none_among w (s ∷ ss) h = of (is w s) refl (none_among w ss h.1)
  where
    of : (b : Bool) → is w s ≡ b → among w ss ≡ false → (b || among w ss) ≡ false
    of true e f = absurd (h.0 ((bytes_eq-Decides w (codes s)).0 e))
    of false e f = f
