-- The numbers of the rows that a node of a finished tree and its parts hold.
use Rattle.std.proofs.Common.{◌≡◌, ℕ, zero, suc, ◌+◌, ◌≤◌, Some, None, refl, ap, ◌∙◌, arith, add-one}
use Rattle.tree.specs.Tree.{Tree, Parts, node, none, part, gap, kind_of, flags_of, parts_of, part_count, part_at, parts_take}
use Rattle.tree.specs.declared.node_use.NodeUse.{NodeUse}
use Rattle.tree.specs.declared.node_use.ParentUse.{ParentUse}
use Rattle.tree.specs.NodeUses.{own_rows, rows_in, parts_rows, rows_before, use_in}
use Rattle.tree.proofs.PartWalk.{parts_drop}

-- The rows before a place

take_part : (a : ParentUse) (c j : ℕ) (ps : Parts) (i : ℕ) (t : Tree) → Some t ≡ part_at ps i → parts_rows a c j (parts_take (suc i) ps) ≡ parts_rows a c j (parts_take i ps) + rows_in (use_in a c (j + i) t) t
take_part a c j none i t h = absurd (cc)
take_part a c j (part u ps) zero t h =
    let same : u ≡ t = cc in
    let at : j ≡ j + 0 = omega arith in
    omega (arith, ap (λ (v : Tree). rows_in (use_in a c j v) v) same, ap (λ k. rows_in (use_in a c k t) t) at)
take_part a c j (part u ps) (suc i) t h =
    let at : (j + 1) + i ≡ j + suc i = omega arith in
    omega (arith, take_part a c (j + 1) ps i t h, ap (λ k. rows_in (use_in a c k t) t) at)
take_part a c j (gap ps) zero t h = absurd (cc)
take_part a c j (gap ps) (suc i) t h =
    let at : (j + 1) + i ≡ j + suc i = omega arith in
    omega (arith, take_part a c (j + 1) ps i t h, ap (λ k. rows_in (use_in a c k t) t) at)

take_gap : (a : ParentUse) (c j : ℕ) (ps : Parts) (i : ℕ) → None ≡ part_at ps i → parts_rows a c j (parts_take (suc i) ps) ≡ parts_rows a c j (parts_take i ps)
take_gap a c j none zero h = refl
take_gap a c j none (suc i) h = refl
take_gap a c j (part u ps) zero h = absurd (cc)
take_gap a c j (part u ps) (suc i) h = ap (λ m. rows_in (use_in a c j u) u + m) (take_gap a c (j + 1) ps i h)
take_gap a c j (gap ps) zero h = refl
take_gap a c j (gap ps) (suc i) h = take_gap a c (j + 1) ps i h

take_past : (ps : Parts) (i : ℕ) → part_count ps ≤ i → parts_take i ps ≡ ps
take_past none zero h = refl
take_past none (suc i) h = refl
take_past (part t ps) zero h = absurd (omega (arith, h))
take_past (part t ps) (suc i) h = ap (part t) (take_past ps i (omega (arith, h)))
take_past (gap ps) zero h = absurd (omega (arith, h))
take_past (gap ps) (suc i) h = ap gap (take_past ps i (omega (arith, h)))

-- behind a part
pub rows_before-part : (a : ParentUse) (c i : ℕ) (ps : Parts) (t : Tree) → Some t ≡ part_at ps i → rows_before a c (i + 1) ps ≡ rows_before a c i ps + rows_in (use_in a c i t) t
rows_before-part a c i ps t h =
    let at : 0 + i ≡ i = omega arith in
    ap (λ k. parts_rows a c 0 (parts_take k ps)) (add-one i) ∙ take_part a c 0 ps i t h ∙ ap (λ k. parts_rows a c 0 (parts_take i ps) + rows_in (use_in a c k t) t) at

-- behind a gap, and past the end
pub rows_before-gap : (a : ParentUse) (c i : ℕ) (ps : Parts) → None ≡ part_at ps i → rows_before a c (i + 1) ps ≡ rows_before a c i ps
rows_before-gap a c i ps h = ap (λ k. parts_rows a c 0 (parts_take k ps)) (add-one i) ∙ take_gap a c 0 ps i h

-- behind the last
pub rows_before-all : (a : ParentUse) (c i : ℕ) (ps : Parts) → part_count ps ≤ i → rows_before a c i ps ≡ parts_rows a c 0 ps
rows_before-all a c i ps h = ap (parts_rows a c 0) (take_past ps i h)

-- the parts before a place and those from it on
pub rows_before-rest : (a : ParentUse) (c i : ℕ) (ps : Parts) → rows_before a c i ps + parts_rows a c i (parts_drop i ps) ≡ parts_rows a c 0 ps
rows_before-rest a c i ps = split 0 i i ps (omega arith)
  where
    split : (j i k : ℕ) (ps : Parts) → j + i ≡ k → parts_rows a c j (parts_take i ps) + parts_rows a c k (parts_drop i ps) ≡ parts_rows a c j ps
    split j zero k ps e = let at : k ≡ j = omega (arith, e) in omega (arith, ap (λ m. parts_rows a c m ps) at)
    split j (suc i) k none e = refl
    split j (suc i) k (part t ps) e = omega (arith, split (j + 1) i k ps (omega (arith, e)))
    split j (suc i) k (gap ps) e = split (j + 1) i k ps (omega (arith, e))

-- a node's rows are its own and those of its parts
pub rows_in_parts : (a : NodeUse) (t : Tree) → rows_in a t ≡ own_rows a (kind_of t) + parts_rows (record { node_use = a; kind = kind_of t; flags = flags_of t }) (part_count (parts_of t)) 0 (parts_of t)
rows_in_parts a (node k w g s e ps) = refl
