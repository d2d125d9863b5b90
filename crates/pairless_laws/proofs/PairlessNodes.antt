-- In a derivation each node costs no pair at its position if none opens from the place where its text may begin up to its end.
use Rattle.tree.specs.declared.kind.Kind.TheVariants.{Identifier}
use Rattle.std.proofs.Common.{◌≡◌, ℕ, ◌≤◌, ◌<◌, Bool, true, List, [], ◌∷◌, refl, sym, ◌++◌, length, ap, subst, arith, ◌⊎◌, inl, inr}
use Rattle.std.specs.Prelude.{Option, Some}
use Rattle.language.specs.declared.Rank.{Rank}
use Rattle.language.specs.declared.Rank.TheVariants.{Expression}
use Rattle.language.specs.declared.Start.{Start}
use Rattle.language.specs.declared.Start.TheVariants.{Any}
use Rattle.tree.specs.declared.kind.Pair.{Pair}
use Rattle.tree.specs.Tree.{Tree, node, Parts, none, part, gap, parts_of, start_of, stop_of, plain}
use Rattle.language.specs.Pieces.{Role, expr, script, PieceOf, key, word}
use Rattle.language.specs.Token.{Token}
use Rattle.language.specs.declared.Language.{Language}
use Rattle.language.specs.declared.Language.TheVariants.{Base}
use Rattle.language.specs.Languages.{DerivesIn, beginning_in, seen_in}
use Rattle.language.specs.Grammar.{ways, ways_bare, spellings}
use Rattle.language.specs.RowPositions.{roles, first_roles, widest}
use Rattle.language.specs.Derivation.{Among, first, later, pair_of, direct, grouped, done, step, opened, closed, within, missing, reserved_key, reserved_word}
use Rattle.language.specs.Cost.{AtMost, at_most, least, parts_least, if_any}
use Rattle.language.specs.Claims.{Derives}
use Rattle.language.proofs.table.LooserPositions.{Looser, same, looser, AllLooser, next}
use Rattle.language.proofs.texts.BaseLanguage.{seen_spells}
use Rattle.language.proofs.lower_bound.LowerBound.{Step-roles, parts_lower_bound}
use Rattle.pairless_laws.specs.Pairless.{IsPairless, PairlessAreFree, PairlessPartsAreFree}
use Rattle.pairless_laws.proofs.PairPlaces.{After, SpellsIn, RunsIn, From, from_place, step_passed, read_passed, no_pairs, first_part, group_opens, behind_node}
use Rattle.pairless_laws.proofs.WidestWays.{by_looser, widens_widest, holds_first, cost_first}

-- With more pairs

abbrev Within : List Pair → List Pair → Type 0
Within P Q = (p : Pair) → Among p P → Among p Q

within_left : (P Q : List Pair) → Within P (P ++ Q)
within_left [] Q p a = elim a [ ]
within_left (x ∷ P) Q _ first = first
within_left (x ∷ P) Q p (later a) = later (within_left P Q p a)

within_right : (P Q : List Pair) → Within Q (P ++ Q)
within_right [] Q p a = a
within_right (x ∷ P) Q p a = later (within_right P Q p a)

mutual
  unfolding PairlessAreFree PairlessPartsAreFree

  -- fewer nodes have none
  more_pairs : (P Q : List Pair) → Within P Q → (f : ℕ) (n : Tree) (a : Role) → PairlessAreFree P f n a → PairlessAreFree Q f n a
  more_pairs P Q x f (node k w g s e ps) a h = ((λ i. h.0 (λ p j. i p (x p j))), more_pairs_parts P Q x s ps (first_roles (ways (widest a) (node k w g s e ps))) h.1)

  more_pairs_parts : (P Q : List Pair) → Within P Q → (f : ℕ) (ps : Parts) (xs : List Role) → PairlessPartsAreFree P f ps xs → PairlessPartsAreFree Q f ps xs
  more_pairs_parts P Q x f none xs h = tt
  more_pairs_parts P Q x f (gap ps) xs h = more_pairs_parts P Q x f ps xs h
  more_pairs_parts P Q x f (part n ps) [] h = tt
  more_pairs_parts P Q x f (part n ps) (a ∷ xs) h = (more_pairs P Q x f n a h.0, more_pairs_parts P Q x (stop_of n) ps xs h.1)

-- A node

node_free : (P : List Pair) (f : ℕ) (n : Tree) (a : Role) → (IsPairless P f (stop_of n) → least n a ≡ Some 0) → PairlessPartsAreFree P (start_of n) (parts_of n) (first_roles (ways (widest a) n)) → PairlessAreFree P f n a
unfolding PairlessAreFree
node_free P f (node k w g s e ps) a h i = (h, i)

parts_free : (P : List Pair) (f : ℕ) (n : Tree) (a : Role) → PairlessAreFree P f n a → PairlessPartsAreFree P (start_of n) (parts_of n) (first_roles (ways (widest a) n))
unfolding PairlessAreFree
parts_free P f (node k w g s e ps) a h = h.1

without_parts : (P : List Pair) (f : ℕ) (ps : Parts) (xs : List Role) → ps ≡ none → PairlessPartsAreFree P f ps xs
unfolding PairlessPartsAreFree
without_parts P f none xs h = tt
without_parts P f (gap ps) xs h = absurd (cc)
without_parts P f (part n ps) xs h = absurd (cc)

-- an expression has one widest position
one_widest : {y : Rank} {i : Bool} {g : Start} {b : Role} → Looser (expr y i g) b → widest b ≡ expr Expression true Any
one_widest same = refl
one_widest (looser u v w) = refl

-- one that a pair stands round: that pair opens before the node's end
in_pair : (P : List Pair) (x : Pair) (f f' : ℕ) (n : Tree) (b : Role) → f ≤ x.left → x.left < stop_of n → widest b ≡ expr Expression true Any → PairlessAreFree P f' n (expr Expression true Any) → PairlessAreFree (x ∷ P) f n b
in_pair P x f f' n b from before wide h =
    node_free (x ∷ P) f n b (λ i. absurd (of (i x first)))
    (subst (λ c. PairlessPartsAreFree (x ∷ P) (start_of n) (parts_of n) (first_roles (ways c n))) (sym wide)
    (parts_free (x ∷ P) f' n (expr Expression true Any) (more_pairs P (x ∷ P) (λ p j. later j) f' n (expr Expression true Any) h)))
  where
    of : (x.left < f) ⊎ (stop_of n ≤ x.left) → ⊥
    of (inl l) = omega (arith, l, from)
    of (inr l) = omega (arith, l, before)

costs_none : (x : Option ℕ) (P : List Pair) → P ≡ [] → AtMost x (length P) → x ≡ Some 0
costs_none x P i h = of (subst (λ Q. AtMost x (length Q)) i h)
  where
    of : {x : Option ℕ} → AtMost x 0 → x ≡ Some 0
    of (at_most {m = m} l) = ap Some (let z : m ≡ 0 = omega (arith, l) in z)

by_parts : {X Y R : Type 0} → X ⊎ Y → (X → R) → (Y → R) → R
by_parts (inl x) f g = f x
by_parts (inr y) f g = g y

-- a name where reserved words stand too
key_least : (w : List ℕ) (a b : ℕ) → least (node Identifier w plain a b none) key ≡ Some 0
unfolding least parts_least ways ways_bare spellings if_any
key_least w a b = refl

word_least : (w : List ℕ) (a b : ℕ) → least (node Identifier w plain a b none) word ≡ Some 0
unfolding least parts_least ways ways_bare spellings if_any
word_least w a b = refl

module _ (m : Language) (text : List ℕ) where
  mutual
    unfolding PairlessPartsAreFree

    spells_free : {o : ℕ} {a : Role} {n : Tree} {s e : Token} {P : List Pair} → SpellsIn m text o a n s e P → (b : Role) → Looser a b → (f : ℕ) → From m text f s → PairlessAreFree P f n b
    spells_free {a = a} {n = n} {P = P} (direct qs h pl d) b l f k =
        node_free P f n b
        (λ i. costs_none (least n b) P (no_pairs m text a qs h pl d f k i) (cost_first n a b qs (by_looser l) h (length P) (λ rs x. parts_lower_bound Token (After m text) (seen_in m) d rs x)))
        (holds_first (PairlessPartsAreFree P (start_of n) (parts_of n)) n a (widest b) qs (widens_widest a b l) h
        (λ rs x. by_parts (first_part m text a qs h pl d) (λ z. runs_free d rs x (start_of n) z) (λ z. without_parts P (start_of n) (parts_of n) rs z)))
    spells_free (reserved_key {w = w} r k e) b same f g = subst (λ n. PairlessAreFree [] f n key) (sym e) (node_free [] f (node Identifier w plain _ _ none) key (λ i. key_least w _ _) tt)
    spells_free (reserved_word {w = w} r k e) b same f g = subst (λ n. PairlessAreFree [] f n word) (sym e) (node_free [] f (node Identifier w plain _ _ none) word (λ i. word_least w _ _) tt)
    spells_free {n = n} (grouped {left = left} {right = right} {m = inside} {P = P} p d q) b l f k =
        in_pair P (pair_of left right) f 0 n b (k.opens p) (group_opens m text p d) (one_widest l) (spells_free d (expr Expression true Any) same 0 (from_place m text 0 inside (omega arith)))

    runs_free : {o : ℕ} {qs : List (PieceOf Role)} {ps : Parts} {s e : Token} {P : List Pair} → RunsIn m text o qs ps s e P → (xs : List Role) → AllLooser (roles qs) xs → (f : ℕ) → From m text f s → PairlessPartsAreFree P f ps xs
    runs_free done xs l f k = tt
    runs_free (step {qs = qs} p d) xs l f k = runs_free d xs (subst (λ rs. AllLooser rs xs) (Step-roles Token (After m text) (seen_in m) qs p) l) f (step_passed m text p k).from
    runs_free (opened p d) xs l f k = runs_free d xs l f (read_passed m text p.next k).from
    runs_free (closed p d) xs l f k = runs_free d xs l f (read_passed m text p.next k).from
    runs_free (within {a = a} {n = n} {ps = ps} {P = P} {Q = Q} p d) (x ∷ xs) (next l ls) f k =
        (more_pairs P (P ++ Q) (within_left P Q) f n x (spells_free p x l f k), more_pairs_parts Q (P ++ Q) (within_right P Q) (stop_of n) ps xs (runs_free d xs ls (stop_of n) (behind_node m text a p)))
    runs_free (within p d) [] l f k = elim l [ ]
    runs_free (missing d) xs l f k = runs_free d xs l f k

-- a script that some text derives in a language
pub derived_free_in : (m : Language) (text : List ℕ) (n : Tree) (P : List Pair) → DerivesIn m text n P → PairlessAreFree P 0 n script
derived_free_in m text n P d = spells_free m text d.1.2 script same 0 (from_place m text 0 (beginning_in m text) (omega arith))

pub derived_free : (text : List ℕ) (n : Tree) (P : List Pair) → Derives text n P → PairlessAreFree P 0 n script
derived_free text n P d = spells_free Base text (seen_spells text d.1.1) script same 0 (from_place Base text 0 _ (omega arith))
