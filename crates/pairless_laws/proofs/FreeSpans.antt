-- In a derivation each node in whose span no grouping pair opens costs no pair at its widest position.
use Rattle.tree.specs.declared.kind.Kind.TheVariants.{Identifier}
use Rattle.std.proofs.Common.{◌≡◌, ℕ, Bool, true, List, [], ◌∷◌, refl, ◌++◌, length, ap, subst, arith, sym}
use Rattle.std.specs.Prelude.{Option, Some}
use Rattle.language.specs.declared.Rank.{Rank}
use Rattle.language.specs.declared.Rank.TheVariants.{Expression}
use Rattle.language.specs.declared.Start.{Start}
use Rattle.language.specs.declared.Start.TheVariants.{Any}
use Rattle.tree.specs.declared.kind.Pair.{Pair}
use Rattle.tree.specs.Tree.{Tree, node, Parts, none, part, gap, parts_of, start_of, stop_of, plain}
use Rattle.language.specs.Pieces.{Role, expr, script, PieceOf, key, word}
use Rattle.language.specs.Token.{Token}
use Rattle.language.specs.declared.Language.{Language}
use Rattle.language.specs.declared.Language.TheVariants.{Base}
use Rattle.language.specs.Languages.{DerivesIn, seen_in}
use Rattle.language.specs.Grammar.{ways, ways_bare, spellings}
use Rattle.language.specs.RowPositions.{roles, first_roles, widest}
use Rattle.language.specs.Derivation.{Among, first, later, direct, grouped, done, step, opened, closed, within, missing, reserved_key, reserved_word}
use Rattle.language.specs.Cost.{AtMost, at_most, least, parts_least, if_any}
use Rattle.language.specs.Claims.{Derives}
use Rattle.language.proofs.table.LooserPositions.{Looser, same, looser, AllLooser, next}
use Rattle.language.proofs.texts.BaseLanguage.{seen_spells}
use Rattle.language.proofs.lower_bound.LowerBound.{Step-roles, parts_lower_bound}
use Rattle.pairless_laws.specs.Pairless.{IsPairless, PairlessSpansAreFree, PairlessPartSpansAreFree}
use Rattle.pairless_laws.proofs.PairPlaces.{After, SpellsIn, RunsIn, no_pairs_in_span}
use Rattle.pairless_laws.proofs.WidestWays.{widens_widest, holds_first, cost_first}

-- With more pairs

abbrev Within : List Pair → List Pair → Type 0
Within P Q = (p : Pair) → Among p P → Among p Q

within_left : (P Q : List Pair) → Within P (P ++ Q)
within_left [] Q p a = elim a [ ]
within_left (x ∷ P) Q _ first = first
within_left (x ∷ P) Q p (later a) = later (within_left P Q p a)

within_right : (P Q : List Pair) → Within Q (P ++ Q)
within_right [] Q p a = a
within_right (x ∷ P) Q p a = later (within_right P Q p a)

mutual
  unfolding PairlessSpansAreFree PairlessPartSpansAreFree

  -- fewer spans have none
  more_pairs : (P Q : List Pair) → Within P Q → (n : Tree) (a : Role) → PairlessSpansAreFree P n a → PairlessSpansAreFree Q n a
  more_pairs P Q x (node k w g s e ps) a h = ((λ i. h.0 (λ p j. i p (x p j))), more_pairs_parts P Q x ps (first_roles (ways (widest a) (node k w g s e ps))) h.1)

  more_pairs_parts : (P Q : List Pair) → Within P Q → (ps : Parts) (xs : List Role) → PairlessPartSpansAreFree P ps xs → PairlessPartSpansAreFree Q ps xs
  more_pairs_parts P Q x none xs h = tt
  more_pairs_parts P Q x (gap ps) xs h = more_pairs_parts P Q x ps xs h
  more_pairs_parts P Q x (part n ps) [] h = tt
  more_pairs_parts P Q x (part n ps) (a ∷ xs) h = (more_pairs P Q x n a h.0, more_pairs_parts P Q x ps xs h.1)

-- A node

node_free : (P : List Pair) (n : Tree) (a : Role) → (IsPairless P (start_of n) (stop_of n) → least n (widest a) ≡ Some 0) → PairlessPartSpansAreFree P (parts_of n) (first_roles (ways (widest a) n)) → PairlessSpansAreFree P n a
unfolding PairlessSpansAreFree
node_free P (node k w g s e ps) a h i = (h, i)

-- what is said of it depends on the widest position alone
free_anywhere : (P : List Pair) (n : Tree) (a b : Role) → widest a ≡ widest b → PairlessSpansAreFree P n a → PairlessSpansAreFree P n b
unfolding PairlessSpansAreFree
free_anywhere P (node k w g s e ps) a b i h = subst (λ c. (IsPairless P s e → least (node k w g s e ps) c ≡ Some 0) × PairlessPartSpansAreFree P ps (first_roles (ways c (node k w g s e ps)))) i h

-- an expression has one widest position
in_pair : (P : List Pair) (n : Tree) {y : Rank} {i : Bool} {f : Start} {b : Role} → Looser (expr y i f) b → PairlessSpansAreFree P n (expr Expression true Any) → PairlessSpansAreFree P n b
in_pair P n {b = b} same h = free_anywhere P n (expr Expression true Any) b refl h
in_pair P n {b = b} (looser u v w) h = free_anywhere P n (expr Expression true Any) b refl h

costs_none : (x : Option ℕ) (P : List Pair) → P ≡ [] → AtMost x (length P) → x ≡ Some 0
costs_none x P i h = of (subst (λ Q. AtMost x (length Q)) i h)
  where
    of : {x : Option ℕ} → AtMost x 0 → x ≡ Some 0
    of (at_most {m = m} l) = ap Some (let z : m ≡ 0 = omega (arith, l) in z)

-- a name where reserved words stand too
key_least : (w : List ℕ) (a b : ℕ) → least (node Identifier w plain a b none) key ≡ Some 0
unfolding least parts_least ways ways_bare spellings if_any
key_least w a b = refl

word_least : (w : List ℕ) (a b : ℕ) → least (node Identifier w plain a b none) word ≡ Some 0
unfolding least parts_least ways ways_bare spellings if_any
word_least w a b = refl

module _ (m : Language) (text : List ℕ) where
  mutual
    unfolding PairlessPartSpansAreFree

    spells_free : {o : ℕ} {a : Role} {n : Tree} {s e : Token} {P : List Pair} → SpellsIn m text o a n s e P → (b : Role) → Looser a b → PairlessSpansAreFree P n b
    spells_free {a = a} {n = n} {P = P} (direct qs h pl d) b l =
        let w = widens_widest a b l in
        node_free P n b
        (λ i. costs_none (least n (widest b)) P (no_pairs_in_span m text a qs h pl d i) (cost_first n a (widest b) qs w h (length P) (λ rs x. parts_lower_bound Token (After m text) (seen_in m) d rs x)))
        (holds_first (PairlessPartSpansAreFree P (parts_of n)) n a (widest b) qs w h (λ rs x. runs_free d rs x))
    spells_free (reserved_key {w = w} r k e) b same = subst (λ n. PairlessSpansAreFree [] n key) (sym e) (node_free [] (node Identifier w plain _ _ none) key (λ i. key_least w _ _) tt)
    spells_free (reserved_word {w = w} r k e) b same = subst (λ n. PairlessSpansAreFree [] n word) (sym e) (node_free [] (node Identifier w plain _ _ none) word (λ i. word_least w _ _) tt)
    spells_free {n = n} (grouped {P = P} p d q) b l = in_pair _ n l (more_pairs P _ (λ x i. later i) n (expr Expression true Any) (spells_free d (expr Expression true Any) same))

    runs_free : {o : ℕ} {qs : List (PieceOf Role)} {ps : Parts} {s e : Token} {P : List Pair} → RunsIn m text o qs ps s e P → (xs : List Role) → AllLooser (roles qs) xs → PairlessPartSpansAreFree P ps xs
    runs_free done xs l = tt
    runs_free (step {qs = qs} p d) xs l = runs_free d xs (subst (λ rs. AllLooser rs xs) (Step-roles Token (After m text) (seen_in m) qs p) l)
    runs_free (opened p d) xs l = runs_free d xs l
    runs_free (closed p d) xs l = runs_free d xs l
    runs_free (within {n = n} {ps = ps} {P = P} {Q = Q} p d) (x ∷ xs) (next l ls) =
        (more_pairs P (P ++ Q) (within_left P Q) n x (spells_free p x l), more_pairs_parts Q (P ++ Q) (within_right P Q) ps xs (runs_free d xs ls))
    runs_free (within p d) [] l = elim l [ ]
    runs_free (missing d) xs l = runs_free d xs l

-- a script that some text derives in a language
pub spans_derived_free_in : (m : Language) (text : List ℕ) (n : Tree) (P : List Pair) → DerivesIn m text n P → PairlessSpansAreFree P n script
spans_derived_free_in m text n P d = spells_free m text d.1.2 script same

pub spans_derived_free : (text : List ℕ) (n : Tree) (P : List Pair) → Derives text n P → PairlessSpansAreFree P n script
spans_derived_free text n P d = spells_free Base text (seen_spells text d.1.1) script same
