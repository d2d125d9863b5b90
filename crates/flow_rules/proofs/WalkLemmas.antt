-- What is said of nodes, and what is known of them, as the walk goes.
use Rattle.std.proofs.Common.{◌≡◌, ℕ, zero, suc, ◌+◌, ◌<◌, ◌≤◌, List, [], ◌∷◌, ◌++◌, Option, length, drop, get_or, refl, sym, ap, ◌∙◌, arith, add-one, append_assoc, append-nil}
use Rattle.std.proofs.Math.Seq.{drop-cons}
use Rattle.tree.specs.Tree.{Tree, node, Parts, none, part, gap, parts_of, part_at, part_count, parts_drop}
use Rattle.rule_words.specs.Reports.{Report}
use Rattle.rule_words.specs.Appends.{Grows}
use Rattle.flow_rules.specs.declared.around.Around.{Around}
use Rattle.flow_rules.specs.declared.flow.Flow.{Flow}
use Rattle.flow_rules.specs.declared.flow.Place.{Place}
use Rattle.flow_rules.specs.declared.flow.Sums.{Sums}
use Rattle.flow_rules.specs.Arounds.{inside}
use Rattle.flow_rules.specs.Flows.{flow_of}
use Rattle.flow_rules.specs.Over.{over_nodes, over_parts}
use Rattle.flow_rules.specs.Steps.{around_behind, over_part, sums_behind}
use Rattle.flow_rules.proofs.SumLemmas.{folded}

-- what is appended to a longer list is appended to the shorter one too
pub grows-on : (xs ys zs : List Report) → Grows xs ys → Grows ys zs → Grows xs zs
grows-on xs ys zs g h = (g.0 ++ h.0, h.1 ∙ ap (λ a. a ++ h.0) g.1 ∙ append_assoc xs g.0 h.0)

pub append-turn : {X : Type 0} (each : List X → List Report) (one : X → List Report) → ((x : X) (xs : List X) → each (x ∷ xs) ≡ one x ++ each xs) → (xs : List X) (i : ℕ) (d : X) (acc new total : List Report) → i < length xs →
    new ≡ acc ++ one (get_or xs i d) → acc ++ each (drop i xs) ≡ total → new ++ each (drop (i + 1) xs) ≡ total
append-turn each one step xs i d acc new total l n so =
    rw (add-one i) (ap (λ a. a ++ each (drop (suc i) xs)) n ∙ append_assoc acc (one (get_or xs i d)) (each (drop (suc i) xs)) ∙ ap (λ a. acc ++ a) (sym (ap each (drop-cons xs i d l) ∙ step (get_or xs i d) (drop (suc i) xs))) ∙ so)

pub over_nodes-is : (f : Around → Flow → Tree → List Report) (z : Around) (t : Tree) → over_nodes f z t ≡ over_parts f (inside z t) (parts_of t) ++ f z (flow_of t) t
unfolding over_nodes
over_nodes-is f z (node k w g s e ps) = refl

over-step : (f : Around → Flow → Tree → List Report) (z : Around) (ps : Parts) (i : ℕ) (o : Option Tree) → i < part_count ps → o ≡ part_at ps i → over_parts f z (parts_drop i ps) ≡ over_part f z o ++ over_parts f (around_behind z o) (parts_drop (suc i) ps)
unfolding over_parts
over-step f z none i o l e = absurd (omega (arith, l))
over-step f z (part t ps) zero o l e = ap (λ p. over_part f z p ++ over_parts f (around_behind z p) ps) (sym e)
over-step f z (gap ps) zero o l e = ap (λ p. over_part f z p ++ over_parts f (around_behind z p) ps) (sym e)
over-step f z (part t ps) (suc i) o l e = over-step f z ps i o (omega (arith, l)) e
over-step f z (gap ps) (suc i) o l e = over-step f z ps i o (omega (arith, l)) e

over-past : (f : Around → Flow → Tree → List Report) (z : Around) (ps : Parts) (i : ℕ) → part_count ps ≤ i → over_parts f z (parts_drop i ps) ≡ []
unfolding over_parts
over-past f z none zero l = refl
over-past f z none (suc i) l = refl
over-past f z (part t ps) zero l = absurd (omega (arith, l))
over-past f z (gap ps) zero l = absurd (omega (arith, l))
over-past f z (part t ps) (suc i) l = over-past f z ps i (omega (arith, l))
over-past f z (gap ps) (suc i) l = over-past f z ps i (omega (arith, l))

-- a turn, with what is known behind the part
pub over-turn : (f : Around → Flow → Tree → List Report) (z y : Around) (ps : Parts) (i : ℕ) (o : Option Tree) (acc new total : List Report) → i < part_count ps → o ≡ part_at ps i → y ≡ around_behind z o → new ≡ acc ++ over_part f z o →
    acc ++ over_parts f z (parts_drop i ps) ≡ total → new ++ over_parts f y (parts_drop (i + 1) ps) ≡ total
over-turn f z y ps i o acc new total l e at n so =
    rw (add-one i) (ap (λ x. x ++ over_parts f y (parts_drop (suc i) ps)) n ∙ append_assoc acc (over_part f z o) (over_parts f y (parts_drop (suc i) ps))
    ∙ ap (λ b. acc ++ (over_part f z o ++ over_parts f b (parts_drop (suc i) ps))) at ∙ ap (λ x. acc ++ x) (sym (over-step f z ps i o l e)) ∙ so)

pub over-end : (f : Around → Flow → Tree → List Report) (z : Around) (ps : Parts) (i : ℕ) (acc total : List Report) → part_count ps ≤ i → acc ++ over_parts f z (parts_drop i ps) ≡ total → acc ≡ total
over-end f z ps i acc total l so = sym (append-nil acc) ∙ ap (λ x. acc ++ x) (sym (over-past f z ps i l)) ∙ so

-- the same of the sums

folded-step : (z : Around) (s : Sums) (ps : Parts) (i : ℕ) (o : Option Tree) → i < part_count ps → o ≡ part_at ps i → folded z.place s (parts_drop i ps) ≡ folded (around_behind z o).place (sums_behind z s o) (parts_drop (suc i) ps)
folded-step z s none i o l e = absurd (omega (arith, l))
folded-step z s (part t ps) zero o l e = ap (λ p. folded (around_behind z p).place (sums_behind z s p) ps) (sym e)
folded-step z s (gap ps) zero o l e = ap (λ p. folded (around_behind z p).place (sums_behind z s p) ps) (sym e)
folded-step z s (part t ps) (suc i) o l e = folded-step z s ps i o (omega (arith, l)) e
folded-step z s (gap ps) (suc i) o l e = folded-step z s ps i o (omega (arith, l)) e

folded-past : (p : Place) (s : Sums) (ps : Parts) (i : ℕ) → part_count ps ≤ i → folded p s (parts_drop i ps) ≡ s
folded-past p s none zero l = refl
folded-past p s none (suc i) l = refl
folded-past p s (part t ps) zero l = absurd (omega (arith, l))
folded-past p s (gap ps) zero l = absurd (omega (arith, l))
folded-past p s (part t ps) (suc i) l = folded-past p s ps i (omega (arith, l))
folded-past p s (gap ps) (suc i) l = folded-past p s ps i (omega (arith, l))

pub folded-turn : (z y : Around) (s r total : Sums) (ps : Parts) (i : ℕ) (o : Option Tree) → i < part_count ps → o ≡ part_at ps i → y ≡ around_behind z o → r ≡ sums_behind z s o → folded z.place s (parts_drop i ps) ≡ total →
    folded y.place r (parts_drop (i + 1) ps) ≡ total
folded-turn z y s r total ps i o l e at n so =
    rw (add-one i) (ap (λ b. folded b.place r (parts_drop (suc i) ps)) at ∙ ap (λ q. folded (around_behind z o).place q (parts_drop (suc i) ps)) n ∙ sym (folded-step z s ps i o l e) ∙ so)

pub folded-end : (p : Place) (s total : Sums) (ps : Parts) (i : ℕ) → part_count ps ≤ i → folded p s (parts_drop i ps) ≡ total → s ≡ total
folded-end p s total ps i l so = sym (folded-past p s ps i l) ∙ so
