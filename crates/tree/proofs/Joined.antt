-- Parts that grow at their end, and how many there are.
use Rattle.std.proofs.Common.{◌≡◌, ◌+◌, refl, ap, ◌∙◌, arith}
use Rattle.tree.specs.Tree.{Tree, Parts, none, part, gap, push, push_gap, join, part_count}

pub join-none : (ps : Parts) → join ps none ≡ ps
join-none none = refl
join-none (part t ps) = ap (part t) (join-none ps)
join-none (gap ps) = ap gap (join-none ps)

pub join-part : (ps qs : Parts) (t : Tree) → join ps (part t qs) ≡ join (push ps t) qs
join-part none qs t = refl
join-part (part u ps) qs t = ap (part u) (join-part ps qs t)
join-part (gap ps) qs t = ap gap (join-part ps qs t)

pub join-gap : (ps qs : Parts) → join ps (gap qs) ≡ join (push_gap ps) qs
join-gap none qs = refl
join-gap (part u ps) qs = ap (part u) (join-gap ps qs)
join-gap (gap ps) qs = ap gap (join-gap ps qs)

pub join-push : (ps qs : Parts) (t : Tree) → join ps (push qs t) ≡ push (join ps qs) t
join-push none qs t = refl
join-push (part u ps) qs t = ap (part u) (join-push ps qs t)
join-push (gap ps) qs t = ap gap (join-push ps qs t)

pub join-push_gap : (ps qs : Parts) → join ps (push_gap qs) ≡ push_gap (join ps qs)
join-push_gap none qs = refl
join-push_gap (part u ps) qs = ap (part u) (join-push_gap ps qs)
join-push_gap (gap ps) qs = ap gap (join-push_gap ps qs)

pub join-join : (ps qs rs : Parts) → join ps (join qs rs) ≡ join (join ps qs) rs
join-join none qs rs = refl
join-join (part u ps) qs rs = ap (part u) (join-join ps qs rs)
join-join (gap ps) qs rs = ap gap (join-join ps qs rs)

-- one part alone
pub join-one : (ps : Parts) (t : Tree) → join ps (part t none) ≡ push ps t
join-one ps t = join-part ps none t ∙ join-none (push ps t)

-- two parts
pub join-two : (ps : Parts) (t u : Tree) → join ps (part t (part u none)) ≡ push (push ps t) u
join-two ps t u = join-part ps (part u none) t ∙ join-one (push ps t) u

pub count-push : (ps : Parts) (t : Tree) → part_count (push ps t) ≡ part_count ps + 1
count-push none t = refl
count-push (part u ps) t = omega (arith, count-push ps t)
count-push (gap ps) t = omega (arith, count-push ps t)

pub count-push_gap : (ps : Parts) → part_count (push_gap ps) ≡ part_count ps + 1
count-push_gap none = refl
count-push_gap (part u ps) = omega (arith, count-push_gap ps)
count-push_gap (gap ps) = omega (arith, count-push_gap ps)

pub count-join : (ps qs : Parts) → part_count (join ps qs) ≡ part_count ps + part_count qs
count-join none qs = omega arith
count-join (part u ps) qs = omega (arith, count-join ps qs)
count-join (gap ps) qs = omega (arith, count-join ps qs)

-- what waits behind what waited before: each side of an equation of these becomes pushes and joins, the last one outermost
pub ruleset joined = (join-none, join-part, join-gap, join-push, join-push_gap, join-join, count-push, count-push_gap, count-join)
