-- What tests ask, operand by operand.
use Rattle.std.proofs.Common.{◌≡◌, ℕ, List, [], ◌∷◌, ◌++◌, Bool, true, false, Some, None, refl, sym, ap, ◌∙◌, map, append_assoc, Ok, Err}
use Rattle.std.specs.Prelude.{cond, ◌&&◌, codes, IfOk, Result}
use Rattle.std.specs.Str.{bytes_eq}
use Rattle.tree.specs.Tree.{Tree, node, Parts, none, part, gap, part_at}
use Rattle.std.proofs.lemmas.List.{map-append}
use Rattle.repetition_rules.specs.Written.{written}
use Rattle.repetition_rules.specs.Tests.{asked, choices, is_logical, split, split_parts}
use Rattle.repetition_rules.specs.Chains.{both, operands}

pair-of : (x y : Tree × Tree) → Some x ≡ Some y → x ≡ y
pair-of x y e = cc

parts-two : (operator : List ℕ) (t : Tree) (ps : Parts) (l r : Tree) → Some (l, r) ≡ both (part_at ps 0) (part_at ps 1) → split_parts operator t ps ≡ split operator l ++ split operator r
unfolding split
parts-two operator t none l r e = absurd (cc)
parts-two operator t (gap ps) l r e = absurd (cc)
parts-two operator t (part a none) l r e = absurd (cc)
parts-two operator t (part a (gap ps)) l r e = absurd (cc)
parts-two operator t (part a (part b ps)) l r e =
    let same = pair-of (l, r) (a, b) e in
    ap (λ x. split operator x.0 ++ split operator x.1) (sym same)

parts-one : (operator : List ℕ) (t : Tree) (ps : Parts) → None ≡ both (part_at ps 0) (part_at ps 1) → split_parts operator t ps ≡ t ∷ []
unfolding split
parts-one operator t none e = refl
parts-one operator t (gap ps) e = refl
parts-one operator t (part a none) e = refl
parts-one operator t (part a (gap ps)) e = refl
parts-one operator t (part a (part b ps)) e = absurd (cc)

two-if : (b : Bool) (operator : List ℕ) (t : Tree) (ps : Parts) (l r : Tree) → Some (l, r) ≡ cond b (both (part_at ps 0) (part_at ps 1)) None → cond b (split_parts operator t ps) (t ∷ []) ≡ split operator l ++ split operator r
two-if true operator t ps l r e = parts-two operator t ps l r e
two-if false operator t ps l r e = absurd (cc)

one-if : (b : Bool) (operator : List ℕ) (t : Tree) (ps : Parts) → None ≡ cond b (both (part_at ps 0) (part_at ps 1)) None → cond b (split_parts operator t ps) (t ∷ []) ≡ t ∷ []
one-if true operator t ps e = parts-one operator t ps e
one-if false operator t ps e = refl

-- a node with two operands
pub split-two : (operator : List ℕ) (t l r : Tree) → Some (l, r) ≡ operands operator t → split operator t ≡ split operator l ++ split operator r
unfolding split
split-two operator (node k w g s e ps) l r h = two-if (is_logical k && bytes_eq w operator) operator (node k w g s e ps) ps l r h

-- another one
pub split-one : (operator : List ℕ) (t : Tree) → None ≡ operands operator t → split operator t ≡ t ∷ []
unfolding split
split-one operator (node k w g s e ps) h = one-if (is_logical k && bytes_eq w operator) operator (node k w g s e ps) ps h

-- what two operands give, one behind the other
pub both-appended : {X : Type 0} (old a b whole mid new : List X) → mid ≡ old ++ a → new ≡ mid ++ b → whole ≡ a ++ b → new ≡ old ++ whole
both-appended old a b whole mid new m n w = n ∙ ap (λ l. l ++ b) m ∙ append_assoc old a b ∙ ap (λ l. old ++ l) (sym w)

pub if_ok : {A E : Type 0} (r : Result A E) {P Q : A → Type 0} → ((x : A) → P x → Q x) → IfOk r P → IfOk r Q
if_ok (Ok a) f h = f a h
if_ok (Err e) f h = h

-- What they ask

pub asked-two : (t l r : Tree) → Some (l, r) ≡ operands (codes "&&") t → asked t ≡ asked l ++ asked r
asked-two t l r h = ap (map written) (split-two (codes "&&") t l r h) ∙ map-append written (split (codes "&&") l) (split (codes "&&") r)

pub asked-one : (t : Tree) → None ≡ operands (codes "&&") t → asked t ≡ written t ∷ []
asked-one t h = ap (map written) (split-one (codes "&&") t h)

pub choices-two : (t l r : Tree) → Some (l, r) ≡ operands (codes "||") t → choices t ≡ choices l ++ choices r
choices-two t l r h = ap (map asked) (split-two (codes "||") t l r h) ∙ map-append asked (split (codes "||") l) (split (codes "||") r)

pub choices-one : (t : Tree) → None ≡ operands (codes "||") t → choices t ≡ asked t ∷ []
choices-one t h = ap (map asked) (split-one (codes "||") t h)

pub conditions-two : (t l r : Tree) → Some (l, r) ≡ operands (codes "&&") t → map choices (split (codes "&&") t) ≡ map choices (split (codes "&&") l) ++ map choices (split (codes "&&") r)
conditions-two t l r h = ap (map choices) (split-two (codes "&&") t l r h) ∙ map-append choices (split (codes "&&") l) (split (codes "&&") r)

pub conditions-one : (t : Tree) → None ≡ operands (codes "&&") t → map choices (split (codes "&&") t) ≡ choices t ∷ []
conditions-one t h = ap (map choices) (split-one (codes "&&") t h)
