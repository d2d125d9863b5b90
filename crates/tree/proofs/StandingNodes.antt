-- Trees whose nodes stand in a vector: their labels and parts, and where their parts stand.
use Rattle.std.proofs.Common.{◌≡◌, ℕ, zero, suc, ◌+◌, ◌-◌, ◌<◌, ◌≤◌, max, List, [], ◌∷◌, length, map, take, drop, get_or, slice_get, Some, None, refl, sym, ap, ◌∙◌, arith, subst}
use Rattle.std.proofs.lemmas.List.{length-map}
use Rattle.tree.specs.Tree.{Tree, Parts, node, none, part, gap, join, kind_of, flags_of, parts_of, part_at, part_count, parts_take, node_total, parts_total}
use Rattle.tree.specs.declared.flat_node.NodeNumber.{NodeNumber}
use Rattle.tree.specs.declared.flat_node.FlatNode.{FlatNode}
use Rattle.tree.specs.Flat.{run_of, AreBefore, AreLinked, numbers_of, runs_of, parts_runs}
use Rattle.tree.specs.Building.{AreInOrder}
use Rattle.tree.specs.Growth.{node_runs}
use Rattle.tree.specs.Labels.{Label, node_label, node_labels, tree_label, labels_of, parts_labels}
use Rattle.tree.specs.Standing.{StandsFrom, Stands, AreStanding, node_places}
use Rattle.tree.proofs.FlatTrees.{Pool, AreLinked-at, range_at}
use Rattle.tree.proofs.Parents.{length-runs, length-parts_runs}
use Rattle.tree.proofs.JoinedParts.{some_node, length-labels_of, length-parts_labels}
use Rattle.tree.proofs.StandingLists.{first_of, last_of, only_of}

-- what is mapped from the node with a number
pub mapped : {Y : Type 0} (f : FlatNode → Y) (es : List FlatNode) (k : ℕ) (e : FlatNode) (y : Y) → k < length es → e ≡ get_or es k e → slice_get (map f es) k ≡ Some y → f e ≡ y
mapped f [] k e y l h g = absurd (omega (arith, l))
mapped f (x ∷ es) zero e y l h g = let v : f x ≡ y = cc in ap f h ∙ v
mapped f (x ∷ es) (suc k) e y l h g = mapped f es k e y (omega (arith, l)) h g

-- A node of its own

module _ (pool : Pool) (es : List FlatNode) (first k : ℕ) where
  pub parts_stand : (t : Tree) → Stands pool es first k t → AreStanding pool es first (parts_of t)
  parts_stand (node q w g s e ps) h =
      let l : Label = record { kind = q; text = w; flags = g; start = s; stop = e } in
      record {
        labels = first_of (node_labels es) (parts_labels ps) (l ∷ []) first h.labels;
        runs = first_of (node_runs pool es) (parts_runs first ps) (numbers_of first ps ∷ []) first h.runs;
      }

  own_label_there : (t : Tree) → Stands pool es first k t → StandsFrom (node_labels es) k (tree_label t ∷ [])
  own_label_there (node q w g s e ps) h =
      let l : Label = record { kind = q; text = w; flags = g; start = s; stop = e } in
      last_of (node_labels es) (parts_labels ps) (l ∷ []) first k (omega (arith, h.number, length-parts_labels ps)) h.labels

  own_run_there : (t : Tree) → Stands pool es first k t → StandsFrom (node_runs pool es) k (numbers_of first (parts_of t) ∷ [])
  own_run_there (node q w g s e ps) h =
      last_of (node_runs pool es) (parts_runs first ps) (numbers_of first ps ∷ []) first k (omega (arith, h.number, length-parts_runs first ps)) h.runs

  pub own_label : (t : Tree) (e : FlatNode) → Stands pool es first k t → k < length es → e ≡ get_or es k e → node_label e ≡ tree_label t
  own_label t e h l g = mapped (λ (x : FlatNode). node_label x) es k e (tree_label t) l g (only_of (node_labels es) (tree_label t) k (own_label_there t h))

  pub own_run : (t : Tree) (e : FlatNode) → Stands pool es first k t → k < length es → e ≡ get_or es k e → run_of pool e ≡ numbers_of first (parts_of t)
  own_run t e h l g = mapped (run_of pool) es k e (numbers_of first (parts_of t)) l g (only_of (node_runs pool es) (numbers_of first (parts_of t)) k (own_run_there t h))

tree_label-kind : (t : Tree) → (tree_label t).kind ≡ kind_of t
tree_label-kind (node q w g s e ps) = refl

tree_label-flags : (t : Tree) → (tree_label t).flags ≡ flags_of t
tree_label-flags (node q w g s e ps) = refl

pub label_kind : (e : FlatNode) (t : Tree) → node_label e ≡ tree_label t → e.kind ≡ kind_of t
label_kind e t h = ap (λ (l : Label). l.kind) h ∙ tree_label-kind t

pub label_flags : (e : FlatNode) (t : Tree) → node_label e ≡ tree_label t → e.flags ≡ flags_of t
label_flags e t h = ap (λ (l : Label). l.flags) h ∙ tree_label-flags t

-- One of some parts

-- a part, and where its nodes begin
pub record StandingPart (pool : Pool) (es : List FlatNode) (first : ℕ) (ps : Parts) (j k : ℕ) : Type 0 where
  pub found : Tree
  pub start : ℕ
  pub is : part_at ps j ≡ Some found
  pub at : start ≡ first + parts_total (parts_take j ps)
  pub stands : Stands pool es start k found

pub standing_part : (pool : Pool) (es : List FlatNode) (first : ℕ) (ps : Parts) (j : ℕ) (k : NodeNumber) → AreStanding pool es first ps → slice_get (numbers_of first ps) j ≡ Some (Some k) → StandingPart pool es first ps j k.number
standing_part pool es first none j k h e = absurd (cc)
standing_part pool es first (gap ps) zero k h e = absurd (cc)
standing_part pool es first (gap ps) (suc j) k h e =
    let f = standing_part pool es first ps j k (record { labels = h.labels; runs = h.runs }) e in
    record { found = f.found; start = f.start; is = f.is; at = f.at; stands = f.stands }
standing_part pool es first (part t ps) zero k h e =
    let same : record { number = first + node_total t - 1 } ≡ k = cc in
    let n = ap (λ (x : NodeNumber). x.number) same in
    let some = some_node t in
    record {
      found = t;
      start = first;
      is = refl;
      at = omega arith;
      stands = record {
        number = omega (arith, n, some);
        labels = first_of (node_labels es) (labels_of t) (parts_labels ps) first h.labels;
        runs = first_of (node_runs pool es) (runs_of first t) (parts_runs (first + node_total t) ps) first h.runs;
      };
    }
standing_part pool es first (part t ps) (suc j) k h e =
    let behind = first + node_total t in
    let f = standing_part pool es behind ps j k
    (record {
      labels = last_of (node_labels es) (labels_of t) (parts_labels ps) first behind (omega (arith, length-labels_of t)) h.labels;
      runs = last_of (node_runs pool es) (runs_of first t) (parts_runs behind ps) first behind (omega (arith, length-runs first t)) h.runs;
    }) e in
    record { found = f.found; start = f.start; is = f.is; at = omega (arith, f.at); stands = f.stands }

-- the parts up to a place and the next one
pub take_part : (ps : Parts) (j : ℕ) (t : Tree) → part_at ps j ≡ Some t → parts_take (suc j) ps ≡ join (parts_take j ps) (part t none)
take_part none j t h = absurd (cc)
take_part (part u ps) zero t h = cc
take_part (gap ps) zero t h = absurd (cc)
take_part (part u ps) (suc j) t h = ap (part u) (take_part ps j t h)
take_part (gap ps) (suc j) t h = ap gap (take_part ps j t h)

pub take_gap : (ps : Parts) (first j : ℕ) → slice_get (numbers_of first ps) j ≡ Some None → parts_take (suc j) ps ≡ join (parts_take j ps) (gap none)
take_gap none first j h = absurd (cc)
take_gap (part u ps) first zero h = absurd (cc)
take_gap (gap ps) first zero h = refl
take_gap (part u ps) first (suc j) h = ap (part u) (take_gap ps (first + node_total u) j h)
take_gap (gap ps) first (suc j) h = ap gap (take_gap ps first j h)

pub take_whole : (n : ℕ) (ps : Parts) → part_count ps ≤ n → parts_take n ps ≡ ps
take_whole zero none h = refl
take_whole zero (part t ps) h = absurd (omega (arith, h))
take_whole zero (gap ps) h = absurd (omega (arith, h))
take_whole (suc n) none h = refl
take_whole (suc n) (part t ps) h = ap (part t) (take_whole n ps (omega (arith, h)))
take_whole (suc n) (gap ps) h = ap gap (take_whole n ps (omega (arith, h)))

-- Where parts are before their node

-- one more than the greatest number among some
abbrev pub above : Pool → ℕ
above [] = 0
above (None ∷ os) = above os
above (Some k ∷ os) = max (k.number + 1) (above os)

pub above_low : (i : ℕ) (os : Pool) → AreBefore i os → above os ≤ i
above_low i [] h = omega arith
above_low i (None ∷ os) h = above_low i os h.1
above_low i (Some k ∷ os) h = omega (arith, h.0, above_low i os h.1)

pub above_high : (os : Pool) (j : ℕ) (k : NodeNumber) → slice_get os j ≡ Some (Some k) → k.number + 1 ≤ above os
above_high [] j k h = absurd (cc)
above_high (None ∷ os) zero k h = absurd (cc)
above_high (Some q ∷ os) zero k h = let same : q ≡ k = cc in omega (arith, ap (λ (x : NodeNumber). x.number) same)
above_high (None ∷ os) (suc j) k h = above_high os j k h
above_high (Some q ∷ os) (suc j) k h = omega (arith, above_high os j k h)

-- the parts of a node that was read
pub node_links : (pool : Pool) (es : List FlatNode) (k : ℕ) (x : FlatNode) → AreLinked pool 0 es → k < length es → x ≡ get_or es k x → (x.first + x.count ≤ length pool) × AreBefore k (run_of pool x)
node_links pool es k x a l g =
    let found = AreLinked-at pool 0 es k x a l in
    let at : 0 + k ≡ k = omega arith in
    (range_at pool es k x a l g, subst (λ n. AreBefore n (run_of pool x)) at (subst (λ (y : FlatNode). AreBefore (0 + k) (run_of pool y)) (sym g) found.1))

-- Nodes that keep their parts

run_at : Pool → ℕ × ℕ → Pool
run_at pool p = take p.1 (drop p.0 pool)

runs_at : (pool : Pool) (es : List FlatNode) → node_runs pool es ≡ map (run_at pool) (node_places es)
unfolding run_at
runs_at pool [] = refl
runs_at pool (e ∷ es) = ap (λ (rs : List Pool). run_of pool e ∷ rs) (runs_at pool es)

pub same_runs : (pool : Pool) (xs ys : List FlatNode) → node_places ys ≡ node_places xs → node_runs pool ys ≡ node_runs pool xs
same_runs pool xs ys h = runs_at pool ys ∙ ap (map (run_at pool)) h ∙ sym (runs_at pool xs)

pub same_count : (xs ys : List FlatNode) → node_places ys ≡ node_places xs → length ys ≡ length xs
same_count xs ys h =
    let f : FlatNode → ℕ × ℕ = λ e. (e.first, e.count) in
    omega (arith, ap length h, length-map xs f, length-map ys f)

pub same_links : (pool : Pool) (i : ℕ) (xs ys : List FlatNode) → node_places ys ≡ node_places xs → AreLinked pool i xs → AreLinked pool i ys
same_links pool i [] [] h a = tt
same_links pool i [] (y ∷ ys) h a = absurd (cc)
same_links pool i (x ∷ xs) [] h a = absurd (cc)
same_links pool i (x ∷ xs) (y ∷ ys) h a =
    let head : ◌≡◌ {A = ℕ × ℕ} (y.first, y.count) (x.first, x.count) = cc in
    let first : y.first ≡ x.first = ap (λ (p : ℕ × ℕ). p.0) head in
    let count : y.count ≡ x.count = ap (λ (p : ℕ × ℕ). p.1) head in
    let rest : node_places ys ≡ node_places xs = cc in
    let run : run_of pool x ≡ run_of pool y = ap (λ n. take n (drop x.first pool)) (sym count) ∙ ap (λ n. take y.count (drop n pool)) (sym first) in
    (omega (arith, a.0, first, count), (subst (λ (os : Pool). AreBefore i os) run a.1.0, same_links pool (i + 1) xs ys rest a.1.1))

pub same_order : (size at : ℕ) (xs ys : List FlatNode) → node_places ys ≡ node_places xs → AreInOrder size at xs → AreInOrder size at ys
same_order size at [] [] h a = a
same_order size at [] (y ∷ ys) h a = absurd (cc)
same_order size at (x ∷ xs) [] h a = absurd (cc)
same_order size at (x ∷ xs) (y ∷ ys) h a =
    let head : ◌≡◌ {A = ℕ × ℕ} (y.first, y.count) (x.first, x.count) = cc in
    let first : y.first ≡ x.first = ap (λ (p : ℕ × ℕ). p.0) head in
    let count : y.count ≡ x.count = ap (λ (p : ℕ × ℕ). p.1) head in
    let rest : node_places ys ≡ node_places xs = cc in
    (first ∙ a.0, same_order size (at + y.count) xs ys rest (subst (λ n. AreInOrder size (at + n) xs) (sym count) a.1))
