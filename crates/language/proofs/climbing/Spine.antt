-- The left spine of a derivation, over the whole table.
use Rattle.std.proofs.Common.{◌≡◌, ℕ, suc, Bool, true, false, List, ◌∷◌, ◌++◌, refl}
use Rattle.std.specs.Prelude.{codes}
use Rattle.std.proofs.lemmas.Bool.{false≢true}
use Rattle.tokens.specs.declared.token.TokenClass.TheVariants.{Punctuator}
use Rattle.language.specs.declared.Rank.{Rank}
use Rattle.language.specs.declared.Rank.TheVariants.{Expression}
use Rattle.language.specs.declared.Start.{Start}
use Rattle.language.specs.declared.Start.TheVariants.{Any}
use Rattle.tree.specs.declared.kind.Pair.{Pair}
use Rattle.tree.specs.Tree.{Tree, Parts, part, parts_of}
use Rattle.language.specs.Pieces.{key, word, Role, expr, chain_part, PieceOf, sub}
use Rattle.language.specs.Token.{Token}
use Rattle.language.specs.Grammar.{ways}
use Rattle.language.specs.Derivation.{reserved_key, reserved_word, Among, pair_of, Reads, Spells, direct, grouped, Runs, step, within, Placed}

-- it begins with a part that is read by the same loop
abbrev pub is_led : List (PieceOf Role) → Bool
is_led (sub (expr y i f) ∷ qs) = true
is_led (sub (chain_part f) ∷ qs) = true
is_led _ = false

-- a role on a spine
abbrev pub on_spine : Role → Bool
on_spine (expr y i f) = true
on_spine (chain_part f) = true
on_spine _ = false

led_on_spine : (b : Role) (rest : List (PieceOf Role)) → is_led (sub b ∷ rest) ≡ true → on_spine b ≡ true
led_on_spine (expr y i f) rest h = refl
led_on_spine (chain_part f) rest h = refl
led_on_spine _ rest h = absurd (false≢true h)

module _ (S : Type 0) (Next : S → Token → S → Type 0) (behind : S → Token) where
  -- what a spine begins with: a group, or a way that begins with no such part
  pub data Core : ℕ → Role → Tree → S → S → List Pair → Type 0 where
    core_key : {o : ℕ} {n : Tree} {s e : S} {P : List Pair} → Spells ways S Next behind o key n s e P → Core o key n s e P
    core_word : {o : ℕ} {n : Tree} {s e : S} {P : List Pair} → Spells ways S Next behind o word n s e P → Core o word n s e P
    group : {o : ℕ} {y : Rank} {i : Bool} {f : Start} {n : Tree} {left right : Token} {s m l e : S} {P : List Pair} →
        Reads S Next behind Punctuator (codes "(") s left m → Spells ways S Next behind o (expr Expression true Any) n m l P →
        Reads S Next behind Punctuator (codes ")") l right e → Core (suc o) (expr y i f) n s e (pair_of left right ∷ P)
    plain : {o : ℕ} {a : Role} {n : Tree} {s e : S} {P : List Pair} {ps : Parts} →
        (qs : List (PieceOf Role)) → Among qs (ways a n) → is_led qs ≡ false → Placed S Next behind a n s e →
        parts_of n ≡ ps → Runs ways S Next behind o qs ps s e P → Core o a n s e P

  -- from the node m at b, which ends at a place, by ways that are led by what stands so far, the whole n at a is made
  pub data Grows (o : ℕ) (s0 : S) (a : Role) (n : Tree) (e : S) (P : List Pair) : Role → Tree → S → List Pair → Type 0 where
    whole : Grows o s0 a n e P a n e P
    grow : {b c : Role} {m l : Tree} {ps : Parts} {rest : List (PieceOf Role)} {mid to : S} {Q R : List Pair} →
        Among (sub b ∷ rest) (ways c l) → is_led (sub b ∷ rest) ≡ true → Placed S Next behind c l s0 to → parts_of l ≡ part m ps →
        Runs ways S Next behind o rest ps mid to R → Grows o s0 a n e P c l to (Q ++ R) →
        Grows o s0 a n e P b m mid Q

  pub grows_on_spine : {o : ℕ} {s0 e : S} {a : Role} {n : Tree} {P : List Pair} {b : Role} {m : Tree} {mid : S} {Q : List Pair} →
      on_spine a ≡ true → Grows o s0 a n e P b m mid Q → on_spine b ≡ true
  grows_on_spine h whole = h
  grows_on_spine {b = b} h (grow g led pl eq d gs) = led_on_spine b _ led

  pub outer : {o : ℕ} {s0 : S} {a : Role} {n : Tree} {e : S} {P : List Pair} {b : Role} {m : Tree} {mid : S} {Q : List Pair}
      {c : Role} {l : Tree} {ps : Parts} {rest : List (PieceOf Role)} {to : S} {R : List Pair} →
      Among (sub a ∷ rest) (ways c l) → is_led (sub a ∷ rest) ≡ true → Placed S Next behind c l s0 to → parts_of l ≡ part n ps →
      Runs ways S Next behind o rest ps e to R →
      Grows o s0 a n e P b m mid Q → Grows o s0 c l to (P ++ R) b m mid Q
  outer h led pl is d (grow h' led' pl' is' d' g) = grow h' led' pl' is' d' (outer h led pl is d g)
  outer h led pl is d whole = grow h led pl is d whole

  pub record Spine (o : ℕ) (a : Role) (n : Tree) (s e : S) (P : List Pair) : Type 0 where
    pub role : Role
    pub first : Tree
    pub mid : S
    pub pairs : List Pair
    pub core : Core o role first s mid pairs
    pub grows : Grows o s a n e P role first mid pairs

  abbrev as_plain : {o : ℕ} {a : Role} {n : Tree} {s e : S} {P : List Pair} → Core o a n s e P → Spine o a n s e P
  as_plain c = record { role = _; first = _; mid = _; pairs = _; core = c; grows = whole }

  mutual
    pub spine_of : {o : ℕ} {a : Role} {n : Tree} {s e : S} {P : List Pair} → Spells ways S Next behind o a n s e P → Spine o a n s e P
    spine_of (grouped p d q) = as_plain (group p d q)
    spine_of (reserved_key r k p) = as_plain (core_key (reserved_key r k p))
    spine_of (reserved_word r k p) = as_plain (core_word (reserved_word r k p))
    spine_of (direct qs h pl d) = spine_way qs h pl refl d

    spine_way : {o : ℕ} {a : Role} {n : Tree} {s e : S} {P : List Pair} {ps : Parts} (qs : List (PieceOf Role)) →
        Among qs (ways a n) → Placed S Next behind a n s e → parts_of n ≡ ps → Runs ways S Next behind o qs ps s e P → Spine o a n s e P
    spine_way (sub (expr y i f) ∷ qs) h pl is (within p d) = let u = spine_of p in
        record { role = u.role; first = u.first; mid = u.mid; pairs = u.pairs; core = u.core; grows = outer h refl pl is d u.grows }
    spine_way (sub (chain_part f) ∷ qs) h pl is (within p d) = let u = spine_of p in
        record { role = u.role; first = u.first; mid = u.mid; pairs = u.pairs; core = u.core; grows = outer h refl pl is d u.grows }
    spine_way (sub (expr y i f) ∷ qs) h pl is (step p d) = elim p [ ]
    spine_way (sub (chain_part f) ∷ qs) h pl is (step p d) = elim p [ ]
    spine_way qs h pl is d = as_plain (plain qs h refl pl is d)
