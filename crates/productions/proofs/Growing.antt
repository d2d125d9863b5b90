-- Parts that grow at their end: their height, how many they are, and the last.
use Rattle.std.proofs.Common.{◌≡◌, ◌≢◌, max, Option, Some, None, refl, ap, ◌∙◌, arith}
use Rattle.std.specs.Prelude.{option_map}
use Rattle.tree.specs.Tree.{Tree, Parts, none, part, gap, only, push, push_gap, join, height, parts_height, part_count}
use Rattle.tree.proofs.Joined.{count-push, count-push_gap, count-join, join-none}
use Rattle.productions.specs.declared.node_summary.NodeSummary.{NodeSummary}
use Rattle.productions.specs.Summaries.{summary_of, last_or, last_part, last_summary}

pub height-push : (ps : Parts) (t : Tree) → parts_height (push ps t) ≡ max (parts_height ps) (height t)
height-push none t = omega arith
height-push (part n ps) t = omega (arith, height-push ps t)
height-push (gap ps) t = height-push ps t

pub height-push_gap : (ps : Parts) → parts_height (push_gap ps) ≡ parts_height ps
height-push_gap none = omega arith
height-push_gap (part n ps) = omega (arith, height-push_gap ps)
height-push_gap (gap ps) = height-push_gap ps

pub height-join : (ps qs : Parts) → parts_height (join ps qs) ≡ max (parts_height ps) (parts_height qs)
height-join none qs = omega arith
height-join (part n ps) qs = omega (arith, height-join ps qs)
height-join (gap ps) qs = height-join ps qs

last_or-push : (ps : Parts) (t : Tree) (o : Option Tree) → last_or o (push ps t) ≡ Some t
last_or-push none t o = refl
last_or-push (part n ps) t o = last_or-push ps t (Some n)
last_or-push (gap ps) t o = last_or-push ps t None

last_or-push_gap : (ps : Parts) (o : Option Tree) → last_or o (push_gap ps) ≡ None
last_or-push_gap none o = refl
last_or-push_gap (part n ps) o = last_or-push_gap ps (Some n)
last_or-push_gap (gap ps) o = last_or-push_gap ps None

-- the last of several is the last of those behind
last_or-join : (ps qs : Parts) (o : Option Tree) → part_count qs ≢ 0 → last_or o (join ps qs) ≡ last_part qs
last_or-join none none o h = absurd (h refl)
last_or-join none (part n qs) o h = refl
last_or-join none (gap qs) o h = refl
last_or-join (part n ps) qs o h = last_or-join ps qs (Some n) h
last_or-join (gap ps) qs o h = last_or-join ps qs None h

pub last-push : (ps : Parts) (t : Tree) → last_summary (push ps t) ≡ Some (summary_of t)
last-push ps t = ap (option_map summary_of) (last_or-push ps t None)

pub last-push_gap : (ps : Parts) → last_summary (push_gap ps) ≡ None
last-push_gap ps = ap (option_map summary_of) (last_or-push_gap ps None)

pub last-join : (ps qs : Parts) → part_count qs ≢ 0 → last_summary (join ps qs) ≡ last_summary qs
last-join ps qs h = ap (option_map summary_of) (last_or-join ps qs None h)

no_parts : (qs : Parts) → part_count qs ≡ 0 → qs ≡ none
no_parts none h = refl
no_parts (part n qs) h = absurd (omega arith)
no_parts (gap qs) h = absurd (omega arith)

pub last-join_none : (ps qs : Parts) → part_count qs ≡ 0 → last_summary (join ps qs) ≡ last_summary ps
last-join_none ps qs h = ap last_summary (ap (join ps) (no_parts qs h) ∙ join-none ps)

pub ruleset growing = (height-push, height-push_gap, height-join, count-push, count-push_gap, count-join, last-push, last-push_gap)

-- parts that are one: the only one, if the last isn't a gap
pub only_one : (ps : Parts) (s : NodeSummary) → part_count ps ≡ 1 → Some s ≡ last_summary ps → (ps ≡ part (only ps) none) × (s ≡ summary_of (only ps))
only_one none s h l = absurd (omega arith)
only_one (gap none) s h l = absurd (cc)
only_one (gap (part n ps)) s h l = absurd (omega arith)
only_one (gap (gap ps)) s h l = absurd (omega arith)
only_one (part n none) s h l = (refl, cc)
only_one (part n (part m ps)) s h l = absurd (omega arith)
only_one (part n (gap ps)) s h l = absurd (omega arith)
