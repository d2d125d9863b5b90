-- The grouping pairs of a derivation stand between its places, in order of their `(`, and each closes behind it.
use Rattle.std.proofs.Common.{◌≡◌, ℕ, suc, Bool, true, false, ◌≤◌, ◌<◌, List, [], ◌∷◌, ◌++◌, sym, ◌∙◌, arith}
use Rattle.std.specs.Str.{IsUtf8, IsCharBoundary}
use Rattle.std.proofs.lemmas.Str.{IsCharBoundary-from_drop}
use Rattle.tokens.specs.declared.token.TokenClass.TheVariants.{Punctuator, End, IdentifierName, Keyword}
use Rattle.tokens.specs.Reading.{any_goal}
use Rattle.tokens.proofs.Bounds.{IsWithin, token_within, token_goes_on}
use Rattle.tree.specs.declared.kind.Pair.{Pair}
use Rattle.tree.specs.Tree.{Tree, Parts}
use Rattle.language.specs.Pieces.{Role, PieceOf}
use Rattle.language.specs.Token.{Token}
use Rattle.language.specs.Places.{NextIn, next_in, itself}
use Rattle.language.specs.Derivation.{reserved_key, reserved_word, Reads, Spells, direct, grouped, Runs, done, step, opened, closed, within, missing}
use Rattle.language.specs.Grammar.{ways}
use Rattle.unambiguity_laws.specs.Laws.{InOrder, PairsInOrder, PairsInOrderIn}
use Rattle.unambiguity_laws.proofs.heights.Heights.{Passes, read_forward, step_forward, text_passes, seen_passes, beginning_places}
use Rattle.language.specs.declared.Language.{Language}
use Rattle.language.specs.Languages.{is_of_2022, class_in, seen_in, Seen, seen_next, beginning_in}
use Rattle.language.specs.Vocabulary.{is_keyword}
use Rattle.tokens.specs.declared.token.TokenClass.{TokenClass}
use Rattle.std.specs.Prelude.{cond, ◌&&◌}

-- the `(` of the pairs stand at a or behind it and before b, each behind the one before, and each pair closes behind its `(`
abbrev Between : ℕ → ℕ → List Pair → Type 0
Between a b [] = a ≤ b
Between a b (p ∷ P) = (a ≤ p.left) × (p.left < p.right) × Between (suc p.left) b P

-- so they do between places farther apart
between_from : (a m b : ℕ) (P : List Pair) → a ≤ m → Between m b P → Between a b P
between_from a m b [] x h = omega (arith, x, h)
between_from a m b (p ∷ P) x h = let y = h.0 in (omega (arith, x, y), h.1, h.2)

between_to : (a m b : ℕ) (P : List Pair) → m ≤ b → Between a m P → Between a b P
between_to a m b [] x h = omega (arith, x, h)
between_to a m b (p ∷ P) x h = (h.0, h.1, between_to (suc p.left) m b P x h.2)

-- the places are in order too
between_on : (a b : ℕ) (P : List Pair) → Between a b P → a ≤ b
between_on a b [] h = h
between_on a b (p ∷ P) h =
    let x = h.0 in
    let y = between_on (suc p.left) b P h.2 in
    omega (arith, x, y)

-- pairs before a place, and pairs behind it
between_append : (a m b : ℕ) (P Q : List Pair) → Between a m P → Between m b Q → Between a b (P ++ Q)
between_append a m b [] Q h k = between_from a m b Q h k
between_append a m b (p ∷ P) Q h k = (h.0, h.1, between_append (suc p.left) m b P Q h.2 k)

-- they are in order
between_order : (a b : ℕ) (P : List Pair) → Between a b P → InOrder P
between_order a b [] h = tt
between_order a b (p ∷ []) h = h.1
between_order a b (p ∷ q ∷ P) h = (h.1, h.2.0, between_order (suc p.left) b (q ∷ P) h.2)

-- a punctuator that is read stands at the place or behind it, and reading goes on behind its start
record Stands (s e : ℕ) (t : Token) : Type 0 where
  from : s ≤ t.start
  past : t.start < e

module _ (S : Type 0) (Next : S → Token → S → Type 0) (behind : S → Token) (Ok : S → Type 0) (at : S → ℕ) (passes : (s e : S) (t : Token) → Next s t e → Ok s → Passes S Ok at s e t.class) (stands : (s e : S) (t : Token) → Next s t e → Ok s → t.class ≡ Punctuator → Stands (at s) (at e) t) where
  -- between two places the pairs are held
  record Held (s e : S) (P : List Pair) : Type 0 where
    ok : Ok e
    pairs : Between (at s) (at e) P

  -- so stands a punctuator that is read
  read_stands : {w : List ℕ} {s e : S} {t : Token} → Reads S Next behind Punctuator w s t e → Ok s → Stands (at s) (at e) t
  read_stands {s = s} {e = e} {t = t} r k = stands s e t r.next k r.class

  mutual
    -- a pair in front is held by its own tokens, and a part's pairs stand before those of the parts behind it
    spells_held : {o : ℕ} {a : Role} {n : Tree} {s e : S} {P : List Pair} → Spells ways S Next behind o a n s e P → Ok s → Held s e P
    spells_held (direct qs h p d) k = runs_held d k
    spells_held {s = s} {e = e} (grouped {left = left} {right = right} {m = m} {l = l} {P = P} p d q) k =
        let u = read_forward S Next behind Ok at passes p k in
        let v = spells_held d u.ok in
        let w = read_forward S Next behind Ok at passes q v.ok in
        let x = read_stands p k in
        let y = read_stands q v.ok in
        let a = x.past in
        let b = between_on (at m) (at l) P v.pairs in
        let c = y.from in
        let f = y.past in
        let inside = between_to (at m) (at l) (at e) P (omega (arith, c, f)) v.pairs in
        record { ok = w.ok; pairs = (x.from, omega (arith, a, b, c), between_from (suc left.start) (at m) (at e) P a inside) }
    spells_held {s = s} {e = e} (reserved_key r h p) k = let u = read_forward S Next behind Ok at passes r k in let x = u.far in record { ok = u.ok; pairs = omega (arith, x) }
    spells_held {s = s} {e = e} (reserved_word r h p) k = let u = read_forward S Next behind Ok at passes r k in let x = u.far in record { ok = u.ok; pairs = omega (arith, x) }

    runs_held : {o : ℕ} {qs : List (PieceOf Role)} {ps : Parts} {s e : S} {P : List Pair} → Runs ways S Next behind o qs ps s e P → Ok s → Held s e P
    runs_held done k = record { ok = k; pairs = omega arith }
    runs_held {s = s} {e = e} {P = P} (step {m = m} p d) k =
        let u = step_forward S Next behind Ok at passes p k in
        let v = runs_held d u.ok in
        let x = u.far in
        record { ok = v.ok; pairs = between_from (at s) (at m) (at e) P (omega (arith, x)) v.pairs }
    runs_held {s = s} {e = e} {P = P} (opened {m = m} p d) k =
        let u = read_forward S Next behind Ok at passes p k in
        let v = runs_held d u.ok in
        let x = u.far in
        record { ok = v.ok; pairs = between_from (at s) (at m) (at e) P (omega (arith, x)) v.pairs }
    runs_held {s = s} {e = e} {P = P} (closed {m = m} p d) k =
        let u = read_forward S Next behind Ok at passes p k in
        let v = runs_held d u.ok in
        let x = u.far in
        record { ok = v.ok; pairs = between_from (at s) (at m) (at e) P (omega (arith, x)) v.pairs }
    runs_held (within {s = s} {m = m} {e = e} {P = P} {Q = Q} p d) k =
        let u = spells_held p k in
        let v = runs_held d u.ok in
        record { ok = v.ok; pairs = between_append (at s) (at m) (at e) P Q u.pairs v.pairs }
    runs_held (missing d) k = let u = runs_held d k in record { ok = u.ok; pairs = u.pairs }

-- In a text

-- a punctuator of a text stands so
text_stands : (text : List ℕ) → IsUtf8 text → (s e t : Token) → NextIn text any_goal s t e → IsCharBoundary text s.stop → t.class ≡ Punctuator → Stands s.stop e.stop t
text_stands text u s _ _ (next_in {t = t} goal g h) p c =
    let w : IsWithin text s.stop t = token_within text goal s.stop t u p h in
    record { from = w.behind_place; past = token_goes_on text goal s.stop t u p h (λ f. absurd (no_end (sym c ∙ f))) }
  where
    no_end : Punctuator ≡ End → ⊥
    no_end f = absurd (cc)

-- the pairs of a script are in order
pub pairs_ordered : PairsInOrder
pairs_ordered text n P u d =
    let start : IsCharBoundary text 0 = IsCharBoundary-from_drop text 0 (omega arith) u in
    let h = spells_held Token (NextIn text any_goal) itself (λ p. IsCharBoundary text p.stop) (λ p. p.stop) (text_passes text u) (text_stands text u) d.1.1 start in
    between_order 0 d.1.0.stop P h.pairs

-- In a language

punctuator_seen : (language : Language) (c : TokenClass) (w : List ℕ) → class_in language c w ≡ Punctuator → c ≡ Punctuator
punctuator_seen language IdentifierName w h = of (is_of_2022 language && is_keyword w) h
  where
    of : (b : Bool) → cond b Keyword IdentifierName ≡ Punctuator → IdentifierName ≡ Punctuator
    of true h = cc
    of false h = h
punctuator_seen language _ w h = h

seen_stands : (language : Language) (text : List ℕ) → IsUtf8 text → (s e t : Token) → Seen Token (NextIn text any_goal) language s t e → IsCharBoundary text s.stop → t.class ≡ Punctuator → Stands s.stop e.stop t
seen_stands language text u s e _ (seen_next {t = t} n) p c =
    let v = text_stands text u s e t n p (punctuator_seen language t.class t.text c) in
    record { from = v.from; past = v.past }

-- the pairs of a script are in order there
pub pairs_ordered_in : PairsInOrderIn
pairs_ordered_in language text n P u d =
    let h = spells_held Token (Seen Token (NextIn text any_goal) language) (seen_in language) (λ p. IsCharBoundary text p.stop) (λ p. p.stop) (seen_passes language text u) (seen_stands language text u) d.1.2 (beginning_places language text u) in
    between_order (beginning_in language text).stop d.1.1.stop P h.pairs
