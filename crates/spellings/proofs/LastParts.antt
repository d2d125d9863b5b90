-- What ends in an `if` without `else`, and cases without test, from the parts.
use Rattle.std.proofs.Common.{◌≡◌, ℕ, zero, suc, ◌+◌, ◌<◌, ◌≤◌, Bool, true, false, cond, Some, None, refl, sym, ap, ◌∙◌, arith, add-one}
use Rattle.std.specs.Prelude.{not, nat_le}
use Rattle.std.proofs.lemmas.Bool.Decides.{nat_tests}
use Rattle.tree.specs.Tree.{Tree, node, Parts, none, part, gap, kind_of, parts_of, part_count, part_at}
use Rattle.language.specs.FirstPart.{others}
use Rattle.language.specs.Edges.{trails, ends_in_if, last_ends_in_if}
use Rattle.language.specs.Statements.{defaults}
use Rattle.spelling_table.specs.Outlines.{parts_after}
use Rattle.spellings.specs.Entries.{dangles_at, entry_at, is_gap}
use Rattle.spellings.proofs.PartsAfter.{some-suc, gap-suc, behind-past}

pub dangles_some : (ps : Parts) (i : ℕ) (u : Tree) → Some u ≡ part_at ps i → ends_in_if u ≡ dangles_at ps i
dangles_some none i u h = absurd (cc)
dangles_some (part t ps) zero u h = let same : u ≡ t = cc in ap ends_in_if same
dangles_some (part t ps) (suc i) u h = dangles_some ps i u h
dangles_some (gap ps) zero u h = absurd (cc)
dangles_some (gap ps) (suc i) u h = dangles_some ps i u h

pub dangles_none : (ps : Parts) (i : ℕ) → None ≡ part_at ps i → false ≡ dangles_at ps i
dangles_none none i h = refl
dangles_none (part t ps) zero h = absurd (cc)
dangles_none (part t ps) (suc i) h = dangles_none ps i h
dangles_none (gap ps) zero h = refl
dangles_none (gap ps) (suc i) h = dangles_none ps i h

-- the last part
last_part : (ps : Parts) (i : ℕ) (u : Tree) → part_count ps ≡ i + 1 → Some u ≡ part_at ps i → ends_in_if u ≡ last_ends_in_if ps
last_part none i u n h = absurd (cc)
last_part (part t none) zero u n h = let same : u ≡ t = cc in ap ends_in_if same
last_part (part t none) (suc i) u n h = absurd (cc)
last_part (part t (part m ps)) zero u n h = absurd (omega (arith, n))
last_part (part t (gap ps)) zero u n h = absurd (omega (arith, n))
last_part (part t (part m ps)) (suc i) u n h = last_part (part m ps) i u (omega (arith, n)) h
last_part (part t (gap ps)) (suc i) u n h = last_part (gap ps) i u (omega (arith, n)) h
last_part (gap ps) zero u n h = absurd (cc)
last_part (gap ps) (suc i) u n h = last_part ps i u (omega (arith, n)) h

last_gap : (ps : Parts) (i : ℕ) → part_count ps ≡ i + 1 → None ≡ part_at ps i → true ≡ last_ends_in_if ps
last_gap none i n h = refl
last_gap (part t none) zero n h = absurd (cc)
last_gap (part t none) (suc i) n h = absurd (omega (arith, n))
last_gap (part t (part m ps)) zero n h = absurd (cc)
last_gap (part t (gap ps)) zero n h = absurd (cc)
last_gap (part t (part m ps)) (suc i) n h = last_gap (part m ps) i (omega (arith, n)) h
last_gap (part t (gap ps)) (suc i) n h = last_gap (gap ps) i (omega (arith, n)) h
last_gap (gap none) i n h = refl
last_gap (gap (part m ps)) zero n h = absurd (omega (arith, n))
last_gap (gap (gap ps)) zero n h = absurd (omega (arith, n))
last_gap (gap (part m ps)) (suc i) n h = last_gap (part m ps) i (omega (arith, n)) h
last_gap (gap (gap ps)) (suc i) n h = last_gap (gap ps) i (omega (arith, n)) h

trailing : (n : Tree) (b : Bool) → trails (kind_of n) ≡ true → b ≡ last_ends_in_if (parts_of n) → b ≡ ends_in_if n
trailing (node k w g s e ps) b t h = h ∙ sym (rw t refl)

pub ends_gap : (n : Tree) (i : ℕ) → trails (kind_of n) ≡ true → part_count (parts_of n) ≡ i + 1 → None ≡ part_at (parts_of n) i → true ≡ ends_in_if n
ends_gap n i t c h = trailing n true t (last_gap (parts_of n) i c h)

pub ends_last : (n u : Tree) (i : ℕ) → trails (kind_of n) ≡ true → part_count (parts_of n) ≡ i + 1 → Some u ≡ part_at (parts_of n) i → ends_in_if u ≡ ends_in_if n
ends_last n u i t c h = trailing n (ends_in_if u) t (last_part (parts_of n) i u c h)

-- Cases without test: so many are found, and so many are left

abbrev pub one_if : Bool → ℕ
one_if b = cond b 1 0

abbrev pub untested : Tree → Bool
untested n = is_gap (entry_at (parts_of n) 0)

defaults_part : (n : Tree) (ps : Parts) → defaults (part n ps) ≡ one_if (untested n) + defaults ps
defaults_part (node k w g s e none) ps = refl
defaults_part (node k w g s e (part m us)) ps = refl
defaults_part (node k w g s e (gap us)) ps = refl

pub defaults_some : (ps : Parts) (i : ℕ) (u : Tree) → Some u ≡ part_at ps i → defaults (parts_after i ps) ≡ one_if (untested u) + defaults (parts_after (i + 1) ps)
defaults_some ps i u h = rw (add-one i) (ap defaults (some-suc ps i u h) ∙ defaults_part u (parts_after (suc i) ps))

pub defaults_gap : (ps : Parts) (i : ℕ) → None ≡ part_at ps i → i < part_count ps → defaults (parts_after i ps) ≡ defaults (parts_after (i + 1) ps)
defaults_gap ps i h l = rw (add-one i) (ap defaults (gap-suc ps i h l))

pub defaults_past : (ps : Parts) (i : ℕ) → part_count ps ≤ i → defaults (parts_after i ps) ≡ 0
defaults_past ps i h = ap defaults (behind-past ps i h)

-- what a loop over the cases keeps: those found without test, and those that are left
abbrev pub Counted : Parts → ℕ → Bool → Type 0
Counted ps i b = one_if b + defaults (parts_after i ps) ≡ defaults (others ps)

pub past_gap : (ps : Parts) (i : ℕ) (b : Bool) → Counted ps i b → None ≡ part_at ps i → i < part_count ps → Counted ps (i + 1) b
past_gap ps i b h p l = omega (arith, h, defaults_gap ps i p l)

pub past_tested : (ps : Parts) (i : ℕ) (b : Bool) (u : Tree) → Counted ps i b → Some u ≡ part_at ps i → untested u ≡ false → Counted ps (i + 1) b
past_tested ps i b u h p t = omega (arith, h, defaults_some ps i u p, ap one_if t)

pub past_untested : (ps : Parts) (i : ℕ) (b : Bool) (u : Tree) → Counted ps i b → b ≡ false → Some u ≡ part_at ps i → untested u ≡ true → Counted ps (i + 1) true
past_untested ps i b u h f p t = omega (arith, h, ap one_if f, defaults_some ps i u p, ap one_if t)

many : (n : ℕ) → 2 ≤ n → true ≡ not (nat_le n 1)
many n l = grind (arith, nat_tests)

few : (n : ℕ) → n ≤ 1 → false ≡ not (nat_le n 1)
few n l = grind (arith, nat_tests)

pub found_twice : (ps : Parts) (i : ℕ) (b : Bool) (u : Tree) → Counted ps i b → b ≡ true → Some u ≡ part_at ps i → untested u ≡ true → true ≡ not (nat_le (defaults (others ps)) 1)
found_twice ps i b u h f p t = many (defaults (others ps)) (omega (arith, h, ap one_if f, defaults_some ps i u p, ap one_if t))

one_at_most : (b : Bool) → one_if b ≤ 1
one_at_most true = omega arith
one_at_most false = omega arith

pub found_once : (ps : Parts) (i : ℕ) (b : Bool) → Counted ps i b → part_count ps ≤ i → false ≡ not (nat_le (defaults (others ps)) 1)
found_once ps i b h l = few (defaults (others ps)) (omega (arith, h, defaults_past ps i l, one_at_most b))
