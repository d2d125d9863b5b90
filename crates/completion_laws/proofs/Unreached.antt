-- What `no-unreachable` reports is never evaluated.
use Rattle.std.proofs.Common.{◌≡◌, ℕ, suc, Bool, true, false, cond, List, [], ◌∷◌, All, refl, ◌⊎◌, inl, inr}
use Rattle.std.specs.Prelude.{not, ◌&&◌, ◌||◌, Some}
use Rattle.std.proofs.lemmas.List.Elements.{All-append, All-cons, All-nil}
use Rattle.tree.specs.Tree.{Tree, node, Parts, none, part, gap, part_at}
use Rattle.rule_words.specs.Reports.{Report}
use Rattle.flow_rules.specs.declared.flow_rule.FlowRule.TheVariants.{NoUnreachable}
use Rattle.flow_rules.specs.Arounds.{inside, behind, behind_gap, is_hoisted, round_root}
use Rattle.flow_rules.specs.Completion as flow
use Rattle.flow_rules.specs.Flows.{flow_of}
use Rattle.flow_rules.specs.Found.{found_by_rule}
use Rattle.flow_rules.specs.KindSets.{is_list}
use Rattle.flow_rules.specs.Over.{over_nodes, over_parts}
use Rattle.flow_rules.specs.Rows.{of_node, own_place, report_at}
use Rattle.completion_laws.specs.Completions.{Completes, Normal}
use Rattle.completion_laws.specs.Reaches as reaches
use Rattle.completion_laws.specs.Reaches.{Reaches, ReportsUnreached}
use Rattle.completion_laws.proofs.NormalCompletions.{can}
use Rattle.completion_laws.proofs.RuleLaws.{not_both}

abbrev Domain : {A B : Type 0} → (A → B) → Type 0
Domain {A = A} f = A

abbrev Around : Type 0
Around = Domain behind_gap

-- evaluation of a list of statements never comes to the one behind so many
abbrev IsMissed : Bool → Parts → ℕ → Type 0
IsMissed list ps n = (list ≡ true) × (Reaches ps n → ⊥)

-- a report in parts: of one of them, which is stopped before the first or isn't come to; or below one
data InParts (stopped list : Bool) (report : Report) (ps : Parts) : Type 0 where
  of_part : {t : Tree} (n : ℕ) → part_at ps n ≡ Some t → report ≡ report_at (own_place t) NoUnreachable t →
      (stopped ≡ true) ⊎ IsMissed list ps n → InParts stopped list report ps
  within : {t : Tree} (n : ℕ) → part_at ps n ≡ Some t → ReportsUnreached report t → InParts stopped list report ps

-- a report of a node: of itself, which is stopped; or below it
data OfNode (stopped : Bool) (report : Report) (t : Tree) : Type 0 where
  itself : stopped ≡ true → report ≡ report_at (own_place t) NoUnreachable t → OfNode stopped report t
  inside_it : ReportsUnreached report t → OfNode stopped report t

passed_part : {t : Tree} {ps : Parts} {n : ℕ} → Reaches (part t ps) (suc n) → Completes [] t Normal × Reaches ps n
passed_part (reaches.behind d r) = (d, r)

passed_gap : {ps : Parts} {n : ℕ} → Reaches (gap ps) (suc n) → Reaches ps n
passed_gap (reaches.behind_gap r) = r

either_is : (a b c : Bool) → (a || (b && not c)) ≡ true → (a ≡ true) ⊎ ((b ≡ true) × (c ≡ false))
either_is true b c h = inl refl
either_is false true true h = absurd (cc)
either_is false true false h = inr (refl, refl)
either_is false false c h = absurd (cc)

-- from part to part

of_first : {b l : Bool} {r : Report} {t : Tree} {ps : Parts} → OfNode b r t → InParts b l r (part t ps)
of_first (itself h e) = of_part 0 refl e (inl h)
of_first (inside_it u) = within 0 refl u

stopped_before : (a l : Bool) (t : Tree) (ps : Parts) (n : ℕ) → ((a || (l && not (flow.normal t))) ≡ true) ⊎ IsMissed l ps n →
    (a ≡ true) ⊎ IsMissed l (part t ps) (suc n)
stopped_before a l t ps n (inl h) = of (either_is a l (flow.normal t) h)
  where
    of : (a ≡ true) ⊎ ((l ≡ true) × (flow.normal t ≡ false)) → (a ≡ true) ⊎ IsMissed l (part t ps) (suc n)
    of (inl i) = inl i
    of (inr i) = inr (i.0, λ r. let m = (can (passed_part r).0 refl).normal in not_both m i.1)
stopped_before a l t ps n (inr m) = inr (m.0, λ r. m.1 (passed_part r).1)

of_rest : (a l : Bool) {r : Report} (t : Tree) {ps : Parts} → InParts (a || (l && not (flow.normal t))) l r ps →
    InParts a l r (part t ps)
of_rest a l t {ps = ps} (of_part n p e h) = of_part (suc n) p e (stopped_before a l t ps n h)
of_rest a l t (within n p u) = within (suc n) p u

behind_the_gap : {a l : Bool} {r : Report} {ps : Parts} → InParts a l r ps → InParts a l r (gap ps)
behind_the_gap (of_part n p e (inl h)) = of_part (suc n) p e (inl h)
behind_the_gap (of_part n p e (inr m)) = of_part (suc n) p e (inr (m.0, λ r. m.1 (passed_gap r)))
behind_the_gap (within n p u) = within (suc n) p u

-- and up to the node
of_parts : {a : Bool} {r : Report} {k : _} {w : List ℕ} {g : _} {s e : ℕ} {ps : Parts} → InParts false (is_list k) r ps →
    OfNode a r (node k w g s e ps)
of_parts (of_part n p e (inl h)) = absurd (cc)
of_parts (of_part n p e (inr m)) = inside_it (reaches.here n m.0 p e m.1)
of_parts (within n p u) = inside_it (reaches.below n p u)

if_so : (P : Report → Type 0) (b : Bool) (r : Report) → (b ≡ true → P r) → All P (cond b (r ∷ []) [])
if_so P true r f = All-cons P r [] (f refl) (All-nil P)
if_so P false r f = All-nil P

first_so : (a b : Bool) → (a && b) ≡ true → a ≡ true
first_so true b h = refl
first_so false b h = h

module _ (source : List ℕ) where
  of_itself : (z : Around) (t : Tree) → All (λ r. OfNode z.stopped r t) (of_node source NoUnreachable z (flow_of t) t)
  of_itself z t =
      if_so (λ r. OfNode z.stopped r t) (z.stopped && (not z.in_run && not (is_hoisted t)))
      (report_at (own_place t) NoUnreachable t) (λ h. itself (first_so z.stopped _ h) refl)

  mutual
    unfolding over_nodes over_parts

    of_nodes : (z : Around) (t : Tree) → All (λ r. OfNode z.stopped r t) (over_nodes (of_node source NoUnreachable) z t)
    of_nodes z (node k w g s e ps) =
        All-append (λ r. OfNode z.stopped r (node k w g s e ps))
        (over_parts (of_node source NoUnreachable) (inside z (node k w g s e ps)) ps) _
        (λ i d l. of_parts (of_all (inside z (node k w g s e ps)) ps i d l)) (of_itself z (node k w g s e ps))

    of_all : (z : Around) (ps : Parts) →
        All (λ r. InParts z.stopped (is_list z.round.parent) r ps) (over_parts (of_node source NoUnreachable) z ps)
    of_all z none = All-nil (λ r. InParts z.stopped (is_list z.round.parent) r none)
    of_all z (part t ps) =
        All-append (λ r. InParts z.stopped (is_list z.round.parent) r (part t ps))
        (over_nodes (of_node source NoUnreachable) z t) _
        (λ i d l. of_first (of_nodes z t i d l))
        (λ i d l. of_rest z.stopped (is_list z.round.parent) t (of_all (behind z (flow_of t) t) ps i d l))
    of_all z (gap ps) = λ i d l. behind_the_gap (of_all (behind_gap z) ps i d l)

  of_script : {r : Report} {t : Tree} → OfNode false r t → ReportsUnreached r t
  of_script (itself h e) = absurd (cc)
  of_script (inside_it u) = u

  pub unreached : (script : Tree) → All (λ r. ReportsUnreached r script) (found_by_rule source NoUnreachable script)
  unreached script = λ i d l. of_script (of_nodes round_root script i d l)
