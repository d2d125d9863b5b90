-- What rules say of nodes, as walks over them go.
use Rattle.std.proofs.Common.{◌≡◌, ℕ, zero, suc, ◌+◌, ◌<◌, ◌≤◌, List, [], ◌∷◌, ◌++◌, Option, Some, None, length, drop, get_or, refl, sym, ap, ◌∙◌, arith, add-one, append_assoc, append-nil}
use Rattle.std.proofs.Math.Seq.{drop-cons}
use Rattle.tree.specs.Tree.{Tree, node, Parts, none, part, gap, parts_of, part_at, part_count, parts_drop}
use Rattle.rule_words.specs.Reports.{Report}
use Rattle.rule_words.specs.Appends.{Grows}
use Rattle.node_rules.specs.declared.around.Around.{Around}
use Rattle.node_rules.specs.Arounds.{inside, at_place}
use Rattle.node_rules.specs.Over.{over_nodes, over_parts}

-- what is appended to a longer list is appended to the shorter one too
pub grows-on : (xs ys zs : List Report) → Grows xs ys → Grows ys zs → Grows xs zs
grows-on xs ys zs g h = (g.0 ++ h.0, h.1 ∙ ap (λ a. a ++ h.0) g.1 ∙ append_assoc xs g.0 h.0)

pub append-turn : {X : Type 0} (each : List X → List Report) (one : X → List Report) → ((x : X) (xs : List X) → each (x ∷ xs) ≡ one x ++ each xs) → (xs : List X) (i : ℕ) (d : X) (acc new total : List Report) → i < length xs →
    new ≡ acc ++ one (get_or xs i d) → acc ++ each (drop i xs) ≡ total → new ++ each (drop (i + 1) xs) ≡ total
append-turn each one step xs i d acc new total l n so =
    rw (add-one i) (ap (λ a. a ++ each (drop (suc i) xs)) n ∙ append_assoc acc (one (get_or xs i d)) (each (drop (suc i) xs)) ∙ ap (λ a. acc ++ a) (sym (ap each (drop-cons xs i d l) ∙ step (get_or xs i d) (drop (suc i) xs))) ∙ so)

pub over_nodes-is : (f : Around → Tree → List Report) (a : Around) (t : Tree) → over_nodes f a t ≡ f a t ++ over_parts f (inside a t) 0 (parts_of t)
unfolding over_nodes
over_nodes-is f a (node k w g s e ps) = refl

abbrev over_at : (Around → Tree → List Report) → Around → Option Tree → List Report
over_at f a None = []
over_at f a (Some t) = over_nodes f a t

over-step : (f : Around → Tree → List Report) (a : Around) (ps : Parts) (i j : ℕ) (o : Option Tree) → i < part_count ps → o ≡ part_at ps i → over_parts f a j (parts_drop i ps) ≡ over_at f (at_place a j) o ++ over_parts f a (j + 1) (parts_drop (suc i) ps)
unfolding over_parts
over-step f a none i j o l e = absurd (omega (arith, l))
over-step f a (part t ps) zero j o l e = ap (λ p. over_at f (at_place a j) p ++ over_parts f a (j + 1) ps) (sym e)
over-step f a (gap ps) zero j o l e = ap (λ p. over_at f (at_place a j) p ++ over_parts f a (j + 1) ps) (sym e)
over-step f a (part t ps) (suc i) j o l e = over-step f a ps i j o (omega (arith, l)) e
over-step f a (gap ps) (suc i) j o l e = over-step f a ps i j o (omega (arith, l)) e

over-past : (f : Around → Tree → List Report) (a : Around) (ps : Parts) (i j : ℕ) → part_count ps ≤ i → over_parts f a j (parts_drop i ps) ≡ []
unfolding over_parts
over-past f a none zero j l = refl
over-past f a none (suc i) j l = refl
over-past f a (part t ps) zero j l = absurd (omega (arith, l))
over-past f a (gap ps) zero j l = absurd (omega (arith, l))
over-past f a (part t ps) (suc i) j l = over-past f a ps i j (omega (arith, l))
over-past f a (gap ps) (suc i) j l = over-past f a ps i j (omega (arith, l))

pub over-given : (f : Around → Tree → List Report) (a b : Around) (ps : Parts) (i : ℕ) (t : Tree) (acc new total : List Report) → i < part_count ps → Some t ≡ part_at ps i → b ≡ at_place a i → new ≡ acc ++ over_nodes f b t →
    acc ++ over_parts f a i (parts_drop i ps) ≡ total → new ++ over_parts f a (i + 1) (parts_drop (i + 1) ps) ≡ total
over-given f a b ps i t acc new total l e at n so =
    let rest : List Report = over_parts f a (i + 1) (parts_drop (i + 1) ps) in
    let step : over_parts f a i (parts_drop i ps) ≡ over_nodes f (at_place a i) t ++ rest = over-step f a ps i i (Some t) l e ∙ ap (λ n. over_nodes f (at_place a i) t ++ over_parts f a (i + 1) (parts_drop n ps)) (sym (add-one i)) in
    ap (λ x. x ++ rest) (n ∙ ap (λ b. acc ++ over_nodes f b t) at) ∙ append_assoc acc (over_nodes f (at_place a i) t) rest ∙ ap (λ x. acc ++ x) (sym step) ∙ so

pub over-gap : (f : Around → Tree → List Report) (a : Around) (ps : Parts) (i : ℕ) (acc total : List Report) → i < part_count ps → None ≡ part_at ps i → acc ++ over_parts f a i (parts_drop i ps) ≡ total → acc ++ over_parts f a (i + 1) (parts_drop (i + 1) ps) ≡ total
over-gap f a ps i acc total l e so =
    let step : over_parts f a i (parts_drop i ps) ≡ over_parts f a (i + 1) (parts_drop (i + 1) ps) = over-step f a ps i i None l e ∙ ap (λ n. over_parts f a (i + 1) (parts_drop n ps)) (sym (add-one i)) in
    ap (λ x. acc ++ x) (sym step) ∙ so

pub over-end : (f : Around → Tree → List Report) (a : Around) (ps : Parts) (i : ℕ) (acc total : List Report) → part_count ps ≤ i → acc ++ over_parts f a i (parts_drop i ps) ≡ total → acc ≡ total
over-end f a ps i acc total l so = sym (append-nil acc) ∙ ap (λ x. acc ++ x) (sym (over-past f a ps i i l)) ∙ so
