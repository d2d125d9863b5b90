-- Every node of a whole tree but the last is a part of just one node, which stands after it.
use Rattle.std.proofs.Common.{◌≡◌, ℕ, zero, suc, ◌+◌, ◌-◌, ◌<◌, ◌≤◌, Bool, true, false, cond, List, [], ◌∷◌, ◌++◌, length, ◌⊎◌, inl, inr, refl, sym, ap, ◌∙◌, arith, append_assoc, length-append, append-nil}
use Rattle.tree.specs.Tree.{Tree, Parts, node, none, part, gap, node_total, parts_total}
use Rattle.tree.specs.Flat.{numbers_of, runs_of, parts_runs, same_number, if_named, parents}
use Rattle.tree.specs.Whole.{whole_tree}
use Rattle.tree.specs.Laws.{AllButTheLastHaveOneParent, TheLastHasNoParent}
use Rattle.tree.proofs.FlatTrees.{Pool}
use Rattle.tree.proofs.Wholes.{node_count}

same-itself : (i j : ℕ) → i ≡ j → same_number i j ≡ true
same-itself zero zero h = refl
same-itself zero (suc j) h = absurd (omega (arith, h))
same-itself (suc i) zero h = absurd (omega (arith, h))
same-itself (suc i) (suc j) h = same-itself i j (omega (arith, h))

same-less : (i j : ℕ) → i < j → same_number i j ≡ false
same-less zero zero h = absurd (omega (arith, h))
same-less zero (suc j) h = refl
same-less (suc i) zero h = refl
same-less (suc i) (suc j) h = same-less i j (omega (arith, h))

same-more : (i j : ℕ) → j < i → same_number i j ≡ false
same-more zero zero h = absurd (omega (arith, h))
same-more zero (suc j) h = absurd (omega (arith, h))
same-more (suc i) zero h = refl
same-more (suc i) (suc j) h = same-more i j (omega (arith, h))

parents-append : (j i : ℕ) (rs us : List Pool) → parents j i (rs ++ us) ≡ parents j i rs ++ parents j (i + length rs) us
parents-append j i [] us = let at : i ≡ i + 0 = omega arith in ap (λ n. parents j n us) at
parents-append j i (r ∷ rs) us =
    let at : (i + 1) + length rs ≡ i + suc (length rs) = omega arith in
    ap (λ ns. if_named j i r ++ ns) (parents-append j (i + 1) rs us ∙ ap (λ n. parents j (i + 1) rs ++ parents j n us) at)
    ∙ sym (append_assoc (if_named j i r) (parents j (i + 1) rs) (parents j (i + suc (length rs)) us))

mutual
  pub length-runs : (i : ℕ) (t : Tree) → length (runs_of i t) ≡ node_total t
  length-runs i (node k w g s e ps) = omega (arith, length-append (parts_runs i ps) (numbers_of i ps ∷ []), length-parts_runs i ps)

  pub length-parts_runs : (i : ℕ) (ps : Parts) → length (parts_runs i ps) ≡ parts_total ps
  length-parts_runs i none = refl
  length-parts_runs i (gap ps) = length-parts_runs i ps
  length-parts_runs i (part t ps) = omega (arith, length-append (runs_of i t) (parts_runs (i + node_total t) ps), length-runs i t, length-parts_runs (i + node_total t) ps)

some_nodes : (t : Tree) → 1 ≤ node_total t
some_nodes (node k w g s e ps) = omega arith

-- the parents among the nodes of some parts, and then their node, which has this number
abbrev parents_in : ℕ → ℕ → ℕ → Parts → List ℕ
parents_in j i n ps = parents j i (parts_runs i ps) ++ if_named j n (numbers_of i ps)

-- those of a node are those of its parts, and it
parents-node : (j i : ℕ) (ps : Parts) → parents j i (parts_runs i ps ++ numbers_of i ps ∷ []) ≡ parents_in j i (i + parts_total ps) ps
parents-node j i ps =
    parents-append j i (parts_runs i ps) (numbers_of i ps ∷ [])
    ∙ ap (λ ns. parents j i (parts_runs i ps) ++ ns) (append-nil (if_named j (i + length (parts_runs i ps)) (numbers_of i ps)))
    ∙ ap (λ n. parents j i (parts_runs i ps) ++ if_named j (i + n) (numbers_of i ps)) (length-parts_runs i ps)

-- those of parts are the first part's, its node where it is the one, and those of the others
parents-part : (j i n : ℕ) (t : Tree) (ps : Parts) → parents_in j i n (part t ps)
    ≡ (parents j i (runs_of i t) ++ parents j (i + node_total t) (parts_runs (i + node_total t) ps))
    ++ cond (same_number (i + node_total t - 1) j) (n ∷ if_named j n (numbers_of (i + node_total t) ps)) (if_named j n (numbers_of (i + node_total t) ps))
parents-part j i n t ps =
    ap (λ ns. ns ++ if_named j n (numbers_of i (part t ps)))
    (parents-append j i (runs_of i t) (parts_runs (i + node_total t) ps)
    ∙ ap (λ m. parents j i (runs_of i t) ++ parents j (i + m) (parts_runs (i + node_total t) ps)) (length-runs i t))

-- where the first part has these and its number is or isn't this one
parents-step : (j i n : ℕ) (t : Tree) (ps : Parts) (ms : List ℕ) (b : Bool) → parents j i (runs_of i t) ≡ ms → same_number (i + node_total t - 1) j ≡ b → parents_in j i n (part t ps)
    ≡ (ms ++ parents j (i + node_total t) (parts_runs (i + node_total t) ps)) ++ cond b (n ∷ if_named j n (numbers_of (i + node_total t) ps)) (if_named j n (numbers_of (i + node_total t) ps))
parents-step j i n t ps ms b p q =
    let rest = parents j (i + node_total t) (parts_runs (i + node_total t) ps) in
    let others = if_named j n (numbers_of (i + node_total t) ps) in
    parents-part j i n t ps
    ∙ ap (λ ns. (ns ++ rest) ++ cond (same_number (i + node_total t - 1) j) (n ∷ others) others) p
    ∙ ap (λ c. (ms ++ rest) ++ cond c (n ∷ others) others) q

mutual
  below : (i j : ℕ) (t : Tree) → j < i → parents j i (runs_of i t) ≡ []
  below i j (node k w g s e ps) h = parents-node j i ps ∙ parts_below i j (i + parts_total ps) ps h

  parts_below : (i j n : ℕ) (ps : Parts) → j < i → parents_in j i n ps ≡ []
  parts_below i j n none h = refl
  parts_below i j n (gap ps) h = parts_below i j n ps h
  parts_below i j n (part t ps) h =
      parents-step j i n t ps [] false (below i j t h) (same-more (i + node_total t - 1) j (omega (arith, h, some_nodes t)))
      ∙ parts_below (i + node_total t) j n ps (omega (arith, h))

mutual
  above : (i j : ℕ) (t : Tree) → i + node_total t ≤ j + 1 → parents j i (runs_of i t) ≡ []
  above i j (node k w g s e ps) h = parents-node j i ps ∙ parts_above i j (i + parts_total ps) ps (omega (arith, h))

  parts_above : (i j n : ℕ) (ps : Parts) → i + parts_total ps ≤ j → parents_in j i n ps ≡ []
  parts_above i j n none h = refl
  parts_above i j n (gap ps) h = parts_above i j n ps h
  parts_above i j n (part t ps) h =
      parents-step j i n t ps [] false (above i j t (omega (arith, h))) (same-less (i + node_total t - 1) j (omega (arith, h, some_nodes t)))
      ∙ parts_above (i + node_total t) j n ps (omega (arith, h))

lift : (j k : ℕ) → (j < k) ⊎ ((j ≡ k) ⊎ (k < j)) → (suc j < suc k) ⊎ ((suc j ≡ suc k) ⊎ (suc k < suc j))
lift j k (inl h) = inl (omega (arith, h))
lift j k (inr (inl h)) = inr (inl (omega (arith, h)))
lift j k (inr (inr h)) = inr (inr (omega (arith, h)))

order : (j k : ℕ) → (j < k) ⊎ ((j ≡ k) ⊎ (k < j))
order zero zero = inr (inl refl)
order zero (suc k) = inl (omega arith)
order (suc j) zero = inr (inr (omega arith))
order (suc j) (suc k) = lift j k (order j k)

choose : {A B C D : Type 0} → A ⊎ (B ⊎ C) → (A → D) → (B → D) → (C → D) → D
choose (inl a) f g h = f a
choose (inr (inl b)) f g h = g b
choose (inr (inr c)) f g h = h c

no_front : (ns ms : List ℕ) → ns ++ ms ≡ [] → (ns ≡ []) × (ms ≡ [])
no_front [] ms h = (refl, h)
no_front (n ∷ ns) ms h = absurd (cc)

-- the node itself, where nothing else names it
behind : (j n i : ℕ) (ps : Parts) → parents_in j i n ps ≡ [] → parents j i (parts_runs i ps) ++ (n ∷ if_named j n (numbers_of i ps)) ≡ n ∷ []
behind j n i ps h =
    let empty = no_front (parents j i (parts_runs i ps)) (if_named j n (numbers_of i ps)) h in
    ap (λ ns. ns ++ (n ∷ if_named j n (numbers_of i ps))) empty.0 ∙ ap (λ ns. n ∷ ns) empty.1

-- just one number, which is greater than this one
abbrev OneAfter : ℕ → List ℕ → Type 0
OneAfter j ns = (m : ℕ) × (j < m) × (ns ≡ m ∷ [])

mutual
  within : (i j : ℕ) (t : Tree) → i ≤ j → j + 1 < i + node_total t → OneAfter j (parents j i (runs_of i t))
  within i j (node k w g s e ps) l h =
      let found = parts_within i j (i + parts_total ps) ps l (omega (arith, h)) (omega arith) in
      (found.0, found.1, parents-node j i ps ∙ found.2)

  parts_within : (i j n : ℕ) (ps : Parts) → i ≤ j → j < i + parts_total ps → i + parts_total ps ≤ n → OneAfter j (parents_in j i n ps)
  parts_within i j n none l h x = absurd (omega (arith, l, h))
  parts_within i j n (gap ps) l h x = parts_within i j n ps l h x
  parts_within i j n (part t ps) l h x =
      let some = some_nodes t in
      choose (order (j + 1) (i + node_total t))
      (λ (p : j + 1 < i + node_total t).
      let found = within i j t l p in (
        found.0,
        found.1,
        parents-step j i n t ps (found.0 ∷ []) false found.2 (same-more (i + node_total t - 1) j (omega (arith, p, some)))
            ∙ ap (λ ns. found.0 ∷ ns) (parts_below (i + node_total t) j n ps (omega (arith, p))),
      ))
      (λ (p : j + 1 ≡ i + node_total t). (
        n,
        omega (arith, h, x),
        parents-step j i n t ps [] true (above i j t (omega (arith, p))) (same-itself (i + node_total t - 1) j (omega (arith, p, some)))
            ∙ behind j n (i + node_total t) ps (parts_below (i + node_total t) j n ps (omega (arith, p))),
      ))
      (λ (p : i + node_total t < j + 1).
      let found = parts_within (i + node_total t) j n ps (omega (arith, p)) (omega (arith, h)) (omega (arith, x)) in
      (found.0, found.1, parents-step j i n t ps [] false (above i j t (omega (arith, p))) (same-less (i + node_total t - 1) j (omega (arith, p, some))) ∙ found.2))

pub all_but_the_last : AllButTheLastHaveOneParent
all_but_the_last f h j l =
    let found = within 0 j (whole_tree f) (omega arith) (omega (arith, l, node_count f h)) in
    (found.0, found.1, ap (parents j 0) h.runs ∙ found.2)

pub the_last : TheLastHasNoParent
the_last f h j l = ap (parents j 0) h.runs ∙ above 0 j (whole_tree f) (omega (arith, l, node_count f h))
