-- Parts one behind the other: how many, where they are cut, and what nodes they have.
use Rattle.std.proofs.Common.{◌≡◌, ℕ, zero, suc, ◌+◌, ◌-◌, ◌≤◌, List, [], ◌∷◌, ◌++◌, length, Some, None, refl, sym, ap, ◌∙◌, arith, append_assoc, length-append}
use Rattle.tree.specs.Tree.{Tree, Parts, node, none, part, gap, join, part_count, parts_take, parts_drop, all_but, last_parts, node_total, parts_total}
use Rattle.tree.specs.declared.flat_node.NodeNumber.{NodeNumber}
use Rattle.tree.specs.Flat.{AreBefore, numbers_of, runs_of, parts_runs}
use Rattle.tree.specs.Labels.{Label, labels_of, parts_labels}
use Rattle.tree.proofs.FlatTrees.{Pool, AreBefore-more}

abbrev pub numbered : ℕ → NodeNumber
numbered n = record { number = n }

pub part_count-join : (ps qs : Parts) → part_count (join ps qs) ≡ part_count ps + part_count qs
part_count-join none qs = omega arith
part_count-join (part t ps) qs = omega (arith, part_count-join ps qs)
part_count-join (gap ps) qs = omega (arith, part_count-join ps qs)

pub parts_total-join : (ps qs : Parts) → parts_total (join ps qs) ≡ parts_total ps + parts_total qs
parts_total-join none qs = omega arith
parts_total-join (part t ps) qs = omega (arith, parts_total-join ps qs)
parts_total-join (gap ps) qs = omega (arith, parts_total-join ps qs)

-- Where they are cut

pub take-join : (ps qs : Parts) → parts_take (part_count ps) (join ps qs) ≡ ps
take-join none qs = refl
take-join (part t ps) qs =
    let at : part_count ps + 1 ≡ suc (part_count ps) = omega arith in
    ap (λ n. parts_take n (part t (join ps qs))) at ∙ ap (part t) (take-join ps qs)
take-join (gap ps) qs =
    let at : part_count ps + 1 ≡ suc (part_count ps) = omega arith in
    ap (λ n. parts_take n (gap (join ps qs))) at ∙ ap gap (take-join ps qs)

pub drop-join : (ps qs : Parts) → parts_drop (part_count ps) (join ps qs) ≡ qs
drop-join none qs = refl
drop-join (part t ps) qs =
    let at : part_count ps + 1 ≡ suc (part_count ps) = omega arith in
    ap (λ n. parts_drop n (part t (join ps qs))) at ∙ drop-join ps qs
drop-join (gap ps) qs =
    let at : part_count ps + 1 ≡ suc (part_count ps) = omega arith in
    ap (λ n. parts_drop n (gap (join ps qs))) at ∙ drop-join ps qs

pub cut : (n : ℕ) (ps : Parts) → join (parts_take n ps) (parts_drop n ps) ≡ ps
cut zero ps = refl
cut (suc n) none = refl
cut (suc n) (part t ps) = ap (part t) (cut n ps)
cut (suc n) (gap ps) = ap gap (cut n ps)

pub part_count-take : (n : ℕ) (ps : Parts) → n ≤ part_count ps → part_count (parts_take n ps) ≡ n
part_count-take zero ps h = refl
part_count-take (suc n) none h = absurd (omega (arith, h))
part_count-take (suc n) (part t ps) h = omega (arith, part_count-take n ps (omega (arith, h)))
part_count-take (suc n) (gap ps) h = omega (arith, part_count-take n ps (omega (arith, h)))

-- the last so many, and the others
pub all_but-join : (n : ℕ) (ps qs : Parts) → part_count qs ≡ n → all_but n (join ps qs) ≡ ps
all_but-join n ps qs h =
    let at : part_count (join ps qs) - n ≡ part_count ps = omega (arith, part_count-join ps qs, h) in
    ap (λ m. parts_take m (join ps qs)) at ∙ take-join ps qs

pub last_parts-join : (n : ℕ) (ps qs : Parts) → part_count qs ≡ n → last_parts n (join ps qs) ≡ qs
last_parts-join n ps qs h =
    let at : part_count (join ps qs) - n ≡ part_count ps = omega (arith, part_count-join ps qs, h) in
    ap (λ m. parts_drop m (join ps qs)) at ∙ drop-join ps qs

pub cut_last : (n : ℕ) (ps : Parts) → join (all_but n ps) (last_parts n ps) ≡ ps
cut_last n ps = cut (part_count ps - n) ps

pub part_count-all_but : (n : ℕ) (ps : Parts) → part_count (all_but n ps) ≡ part_count ps - n
part_count-all_but n ps = part_count-take (part_count ps - n) ps (omega arith)

-- Their nodes

mutual
  pub length-labels_of : (t : Tree) → length (labels_of t) ≡ node_total t
  length-labels_of (node k w g s e ps) =
      let l : Label = record { kind = k; text = w; flags = g; start = s; stop = e } in
      omega (arith, length-append (parts_labels ps) (l ∷ []), length-parts_labels ps)

  pub length-parts_labels : (ps : Parts) → length (parts_labels ps) ≡ parts_total ps
  length-parts_labels none = refl
  length-parts_labels (part t ps) = omega (arith, length-append (labels_of t) (parts_labels ps), length-labels_of t, length-parts_labels ps)
  length-parts_labels (gap ps) = length-parts_labels ps

pub parts_labels-join : (ps qs : Parts) → parts_labels (join ps qs) ≡ parts_labels ps ++ parts_labels qs
parts_labels-join none qs = refl
parts_labels-join (part t ps) qs = ap (λ (ls : List Label). labels_of t ++ ls) (parts_labels-join ps qs) ∙ sym (append_assoc (labels_of t) (parts_labels ps) (parts_labels qs))
parts_labels-join (gap ps) qs = parts_labels-join ps qs

pub parts_runs-join : (i : ℕ) (ps qs : Parts) → parts_runs i (join ps qs) ≡ parts_runs i ps ++ parts_runs (i + parts_total ps) qs
parts_runs-join i none qs = let at : i ≡ i + 0 = omega arith in ap (λ n. parts_runs n qs) at
parts_runs-join i (gap ps) qs = parts_runs-join i ps qs
parts_runs-join i (part t ps) qs =
    let at : (i + node_total t) + parts_total ps ≡ i + (node_total t + parts_total ps) = omega arith in
    ap (λ (rs : List Pool). runs_of i t ++ rs) (parts_runs-join (i + node_total t) ps qs ∙ ap (λ n. parts_runs (i + node_total t) ps ++ parts_runs n qs) at)
    ∙ sym (append_assoc (runs_of i t) (parts_runs (i + node_total t) ps) (parts_runs (i + (node_total t + parts_total ps)) qs))

pub numbers_of-join : (i : ℕ) (ps qs : Parts) → numbers_of i (join ps qs) ≡ numbers_of i ps ++ numbers_of (i + parts_total ps) qs
numbers_of-join i none qs = let at : i ≡ i + 0 = omega arith in ap (λ n. numbers_of n qs) at
numbers_of-join i (gap ps) qs = ap (λ (ns : Pool). None ∷ ns) (numbers_of-join i ps qs)
numbers_of-join i (part t ps) qs =
    let at : (i + node_total t) + parts_total ps ≡ i + (node_total t + parts_total ps) = omega arith in
    ap (λ (ns : Pool). Some (record { number = i + node_total t - 1 }) ∷ ns)
    (numbers_of-join (i + node_total t) ps qs ∙ ap (λ n. numbers_of (i + node_total t) ps ++ numbers_of n qs) at)

pub length-numbers_of : (i : ℕ) (ps : Parts) → length (numbers_of i ps) ≡ part_count ps
length-numbers_of i none = refl
length-numbers_of i (part t ps) = omega (arith, length-numbers_of (i + node_total t) ps)
length-numbers_of i (gap ps) = omega (arith, length-numbers_of i ps)

pub some_node : (t : Tree) → 1 ≤ node_total t
some_node (node k w g s e ps) = omega arith

pub before-numbers_of : (i : ℕ) (ps : Parts) → AreBefore (i + parts_total ps) (numbers_of i ps)
before-numbers_of i none = tt
before-numbers_of i (gap ps) = (tt, before-numbers_of i ps)
before-numbers_of i (part t ps) = (
  omega (arith, some_node t),
  AreBefore-more ((i + node_total t) + parts_total ps) (i + (node_total t + parts_total ps)) (numbers_of (i + node_total t) ps) (omega arith) (before-numbers_of (i + node_total t) ps),
)
