-- What rules say of statements, of how they complete.
use Rattle.std.proofs.Common.{◌≡◌, ℕ, Bool, true, false, List, [], refl, nat_le}
use Rattle.std.specs.Prelude.{not, ◌&&◌, ◌||◌, Some, None}
use Rattle.tree.specs.Tree.{Tree, kind_of, part_count, parts_of}
use Rattle.tree.specs.Kinds.{is_loop}
use Rattle.flow_rules.specs.declared.flow_rule.FlowRule.TheVariants.{ConsistentReturn, ConstructorSuper, NoUnreachableLoop}
use Rattle.flow_rules.specs.Arounds.{returns}
use Rattle.flow_rules.specs.Completion as flow
use Rattle.flow_rules.specs.Fallthrough.{falls_through}
use Rattle.flow_rules.specs.Flows.{flow_of}
use Rattle.flow_rules.specs.KindSets.{is_case}
use Rattle.flow_rules.specs.Rows.{holds, is_body, is_derived}
use Rattle.completion_laws.specs.Completions.{Completion, Normal, Break, Continue, Return, Throw, WithArgument, WithoutArgument, AtYield, Labels, Completes, loop_continues}
use Rattle.completion_laws.specs.Laws.{has_what_leaves, gives_undefined, gives_value, leaves_function}
use Rattle.completion_laws.proofs.Leaving.{a_break, a_break_of, a_labelled_break, a_continue, a_labelled_continue, a_value, an_empty, sought}
use Rattle.completion_laws.proofs.NormalCompletions.{can, both}

pub what_leaves : {labels : Labels} {t : Tree} (c : Completion) → Completes labels t c → has_what_leaves t c ≡ true
what_leaves Normal d = refl
what_leaves (Break None) d = (sought d a_break).stands
what_leaves (Break (Some w)) d = both (sought d a_break_of).stands (sought d a_labelled_break).stands
what_leaves (Continue None) d = (sought d a_continue).stands
what_leaves (Continue (Some w)) d = (sought d a_labelled_continue).stands
what_leaves (Return WithArgument) d = (sought d a_value).stands
what_leaves (Return WithoutArgument) d = (sought d an_empty).stands
what_leaves (Return AtYield) d = refl
what_leaves Throw d = refl

pub not_both : {a : Bool} → a ≡ true → a ≡ false → ⊥
not_both h i = absurd (cc)

pub never_without : {labels : Labels} {t : Tree} (c : Completion) → flow.normal t ≡ false →
    flow.has flow.ReturnsNothing t ≡ false → Completes labels t c → gives_undefined c ≡ false
never_without Normal h i d = absurd (not_both (can d refl).normal h)
never_without (Break o) h i d = refl
never_without (Continue o) h i d = refl
never_without (Return WithArgument) h i d = refl
never_without (Return WithoutArgument) h i d = absurd (not_both (sought d an_empty).stands i)
never_without (Return AtYield) h i d = refl
never_without Throw h i d = refl

first_false : (a b : Bool) → (a || b) ≡ false → (a ≡ false) × (b ≡ false)
first_false true b h = absurd (cc)
first_false false b h = (refl, h)

-- of a body that a run returns a value of
inconsistent : (a b c d : Bool) → a ≡ true → b ≡ true → (a && (b && (c || d))) ≡ false → (c ≡ false) × (d ≡ false)
inconsistent true true c d h i j = first_false c d j
inconsistent true false c d h i j = absurd (cc)
inconsistent false b c d h i j = absurd (cc)

gave_value : {labels : Labels} {t : Tree} (c : Completion) → gives_value c ≡ true → Completes labels t c →
    flow.has flow.ReturnsValue t ≡ true
gave_value Normal h d = absurd (cc)
gave_value (Break o) h d = absurd (cc)
gave_value (Continue o) h d = absurd (cc)
gave_value (Return WithArgument) h d = (sought d a_value).stands
gave_value (Return WithoutArgument) h d = absurd (cc)
gave_value (Return AtYield) h d = absurd (cc)
gave_value Throw h d = absurd (cc)

pub consistent : (source : List ℕ) (z : _) (t : Tree) (c other : Completion) → is_body z t ≡ true →
    holds source ConsistentReturn z (flow_of t) t ≡ false →
    Completes [] t c → Completes [] t other → gives_value c ≡ true → gives_undefined other ≡ false
consistent source z t c other b h d e v =
    let o =
    inconsistent (is_body z t) (flow.has flow.ReturnsValue t) (flow.normal t) (flow.has flow.ReturnsNothing t) b
    (gave_value c v d) h in
    never_without other o.0 o.1 e

-- a reported loop
once : (a b c d : Bool) → (a && (not b && not (c || d))) ≡ true → (b ≡ false) × ((c ≡ false) × (d ≡ false))
once true false false false h = (refl, (refl, refl))
once true true c d h = absurd (cc)
once true false true d h = absurd (cc)
once true false false true h = absurd (cc)
once false b c d h = absurd (cc)

ends : (labels : Labels) (t : Tree) (c : Completion) → flow.normal t ≡ false → flow.has flow.Continue t ≡ false →
    flow.has flow.LabelledContinue t ≡ false → Completes [] t c → loop_continues labels c ≡ false
ends labels t Normal h i j d = absurd (not_both (can d refl).normal h)
ends labels t (Break o) h i j d = refl
ends labels t (Continue None) h i j d = absurd (not_both (sought d a_continue).stands i)
ends labels t (Continue (Some w)) h i j d = absurd (not_both (sought d a_labelled_continue).stands j)
ends labels t (Return r) h i j d = refl
ends labels t Throw h i j d = refl

pub loop_ends : (source : List ℕ) (z : _) (t : Tree) (labels : Labels) (c : Completion) →
    holds source NoUnreachableLoop z (flow_of t) t ≡ true → Completes [] t c → loop_continues labels c ≡ false
loop_ends source z t labels c h d =
    let o = once (is_loop z.round.parent) (flow.normal t) (flow.has flow.Continue t) (flow.has flow.LabelledContinue t) h in
    ends labels t c o.0 o.1.0 o.1.1 d

no_fall : (a b c : Bool) → a ≡ true → b ≡ true → (a && (b && c)) ≡ false → c ≡ true → ⊥
no_fall true true c h i j k = not_both k j
no_fall true false c h i j k = absurd (cc)
no_fall false b c h i j k = absurd (cc)

pub no_fallthrough : (labels : Labels) (t : Tree) → is_case (kind_of t) ≡ true → nat_le 2 (part_count (parts_of t)) ≡ true →
    falls_through (flow_of t) t ≡ false → Completes labels t Normal → ⊥
no_fallthrough labels t h i j d =
    no_fall (is_case (kind_of t)) (nat_le 2 (part_count (parts_of t))) (flow.normal t) h i j (can d refl).normal

-- a branch that returns
gone : (a b c d e f g : Bool) → (not a && ((b || c) && not ((d || e) || (f || g)))) ≡ true →
    ((a ≡ false) × (d ≡ false)) × ((e ≡ false) × ((f ≡ false) × (g ≡ false)))
gone false true c false false false false h = ((refl, refl), (refl, (refl, refl)))
gone false false true false false false false h = ((refl, refl), (refl, (refl, refl)))
gone true b c d e f g h = absurd (cc)
gone false false false d e f g h = absurd (cc)
gone false true c true e f g h = absurd (cc)
gone false true c false true f g h = absurd (cc)
gone false true c false false true g h = absurd (cc)
gone false true c false false false true h = absurd (cc)
gone false false true true e f g h = absurd (cc)
gone false false true false true f g h = absurd (cc)
gone false false true false false true g h = absurd (cc)
gone false false true false false false true h = absurd (cc)

pub branch_returns : {labels : Labels} {t : Tree} (c : Completion) → returns (flow_of t) ≡ true → Completes labels t c →
    leaves_function c ≡ true
branch_returns {labels = labels} {t = t} c h d =
    of c (gone (flow.normal t) (flow.has flow.ReturnsValue t) (flow.has flow.ReturnsNothing t) (flow.has flow.Break t)
    (flow.has flow.LabelledBreak t) (flow.has flow.Continue t) (flow.has flow.LabelledContinue t) h) d
  where
    of : (c : Completion) →
        ((flow.normal t ≡ false) × (flow.has flow.Break t ≡ false)) ×
        ((flow.has flow.LabelledBreak t ≡ false) ×
        ((flow.has flow.Continue t ≡ false) × (flow.has flow.LabelledContinue t ≡ false))) →
        Completes labels t c → leaves_function c ≡ true
    of Normal o d = absurd (not_both (can d refl).normal o.0.0)
    of (Break None) o d = absurd (not_both (sought d a_break).stands o.0.1)
    of (Break (Some w)) o d = absurd (not_both (sought d a_labelled_break).stands o.1.0)
    of (Continue None) o d = absurd (not_both (sought d a_continue).stands o.1.1.0)
    of (Continue (Some w)) o d = absurd (not_both (sought d a_labelled_continue).stands o.1.1.1)
    of (Return r) o d = refl
    of Throw o d = refl

-- a constructor
without_super : (a b c d e f : Bool) → a ≡ true → b ≡ true → (c || d) ≡ false → (a && (b && (not (c || d) && (e || f)))) ≡ false →
    (e ≡ false) × (f ≡ false)
without_super true true false false e f h i j k = first_false e f k
without_super true true true d e f h i j k = absurd (cc)
without_super true true false true e f h i j k = absurd (cc)
without_super true false c d e f h i j k = absurd (cc)
without_super false b c d e f h i j k = absurd (cc)

pub calls_super : (source : List ℕ) (z : _) (t : Tree) (c : Completion) → is_body z t ≡ true → is_derived z.round.home ≡ true →
    holds source ConstructorSuper z (flow_of t) t ≡ false →
    (z.has_super || flow.has flow.SuperCall t) ≡ false → Completes [] t c → gives_undefined c ≡ false
calls_super source z t c h i j k d =
    let o =
    without_super (is_derived z.round.home) (is_body z t) z.has_super (flow.has flow.SuperCall t) (flow.normal t)
    (flow.has flow.ReturnsNothing t) i h k j in
    never_without c o.0 o.1 d
