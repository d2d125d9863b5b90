-- What stands at a place, from the part there.
use Rattle.std.proofs.Common.{◌≡◌, ℕ, zero, suc, ◌+◌, ◌<◌, ◌≤◌, Option, Some, None, refl, arith, ap}
use Rattle.tree.specs.Tree.{Tree, Parts, none, part, gap, kind_of, text_of, part_count, part_at}
use Rattle.spellings.specs.declared.parts.PartAt.TheVariants.{Past, Gap, Part}
use Rattle.spellings.specs.Entries.{entry_at, text_at}

pub entry_some : (ps : Parts) (i : ℕ) (u : Tree) → Some u ≡ part_at ps i → Part (kind_of u) ≡ entry_at ps i
entry_some none i u h = absurd (cc)
entry_some (part t ps) zero u h = let same : u ≡ t = cc in ap (λ x. Part (kind_of x)) same
entry_some (part t ps) (suc i) u h = entry_some ps i u h
entry_some (gap ps) zero u h = absurd (cc)
entry_some (gap ps) (suc i) u h = entry_some ps i u h

pub entry_gap : (ps : Parts) (i : ℕ) → None ≡ part_at ps i → i < part_count ps → Gap ≡ entry_at ps i
entry_gap none i h l = absurd (omega (arith, l))
entry_gap (part t ps) zero h l = absurd (cc)
entry_gap (part t ps) (suc i) h l = entry_gap ps i h (omega (arith, l))
entry_gap (gap ps) zero h l = refl
entry_gap (gap ps) (suc i) h l = entry_gap ps i h (omega (arith, l))

pub entry_past : (ps : Parts) (i : ℕ) → part_count ps ≤ i → Past ≡ entry_at ps i
entry_past none i h = refl
entry_past (part t ps) zero h = absurd (omega (arith, h))
entry_past (part t ps) (suc i) h = entry_past ps i (omega (arith, h))
entry_past (gap ps) zero h = absurd (omega (arith, h))
entry_past (gap ps) (suc i) h = entry_past ps i (omega (arith, h))

pub text_some : (ps : Parts) (i : ℕ) (u : Tree) → Some u ≡ part_at ps i → text_of u ≡ text_at ps i
text_some none i u h = absurd (cc)
text_some (part t ps) zero u h = let same : u ≡ t = cc in ap text_of same
text_some (part t ps) (suc i) u h = text_some ps i u h
text_some (gap ps) zero u h = absurd (cc)
text_some (gap ps) (suc i) u h = text_some ps i u h

pub text_none : (ps : Parts) (i : ℕ) → None ≡ part_at ps i → Rattle.std.proofs.Common.[] ≡ text_at ps i
text_none none i h = refl
text_none (part t ps) zero h = absurd (cc)
text_none (part t ps) (suc i) h = text_none ps i h
text_none (gap ps) zero h = refl
text_none (gap ps) (suc i) h = text_none ps i h
