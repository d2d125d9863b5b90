-- What the number of a node's parts says of them.
use Rattle.std.proofs.Common.{◌≡◌, ℕ, ◌+◌, ◌<◌, ◌≤◌, Bool, true, false, refl, sym, ap, ◌∙◌, arith}
use Rattle.tree.specs.Tree.{Tree, Parts, none, part, gap, part_count}
use Rattle.language.specs.FirstPart.{others}
use Rattle.node_rules.specs.Words.{is_empty}

pub few : (ps : Parts) → part_count ps < 2 → is_empty (others ps) ≡ true
few none l = refl
few (part t none) l = refl
few (part t (part u ps)) l = absurd (omega (arith, l))
few (part t (gap ps)) l = absurd (omega (arith, l))
few (gap none) l = refl
few (gap (part u ps)) l = absurd (omega (arith, l))
few (gap (gap ps)) l = absurd (omega (arith, l))

pub several : (ps : Parts) → 2 ≤ part_count ps → is_empty (others ps) ≡ false
several none l = absurd (omega (arith, l))
several (part t none) l = absurd (omega (arith, l))
several (part t (part u ps)) l = refl
several (part t (gap ps)) l = refl
several (gap none) l = absurd (omega (arith, l))
several (gap (part u ps)) l = refl
several (gap (gap ps)) l = refl

pub no-parts : (ps : Parts) → part_count ps ≡ 0 → is_empty ps ≡ true
no-parts none e = refl
no-parts (part t ps) e = absurd (omega (arith, e))
no-parts (gap ps) e = absurd (omega (arith, e))

pub some-parts : (ps : Parts) → 0 < part_count ps → is_empty ps ≡ false
some-parts none l = absurd (omega (arith, l))
some-parts (part t ps) l = refl
some-parts (gap ps) l = refl

pub ruleset part_counts = (few, several, no-parts, some-parts)
