-- Nodes that move up by one, since another is put before them.
use Rattle.std.proofs.Common.{◌≡◌, ℕ, zero, suc, ◌+◌, ◌-◌, ◌<◌, ◌≤◌, List, [], ◌∷◌, ◌++◌, length, map, set, get_or, slice_get, take, drop, Option, Some, None, refl, sym, ap, ◌∙◌, arith, length-append, append-nil, subst}
use Rattle.std.proofs.Common.{length-drop}
use Rattle.std.proofs.lemmas.List.{take-append-le, drop-append-le, map-append, take_all, drop_all, take-append-drop, length-map, length-take-le}
use Rattle.std.proofs.Math.Seq.{drop-append-add, take-append_seam, drop-append_seam}
use Rattle.tree.specs.declared.flat_node.NodeNumber.{NodeNumber}
use Rattle.tree.specs.declared.flat_node.FlatNode.{FlatNode}
use Rattle.tree.specs.Tree.{Tree, Parts, node, none, part, gap, join, part_count, all_but, last_parts, node_total, parts_total}
use Rattle.tree.specs.declared.flat_builder.FlatBuilder.{FlatBuilder}
use Rattle.tree.specs.Labels.{Label, node_label, node_labels, parts_labels}
use Rattle.tree.specs.Flat.{run_of, IsBefore, AreBefore, AreLinked, numbers_of, runs_of, parts_runs}
use Rattle.tree.specs.Growth.{node_runs}
use Rattle.tree.specs.Building.{most, AreInOrder, IsSound, AreNodesOf}
use Rattle.tree.specs.Moved.{labelled, moved_up}
use Rattle.tree.proofs.FlatTrees.{Pool, AreBefore-more, AreBefore-append}
use Rattle.tree.proofs.Parents.{length-runs, length-parts_runs}
use Rattle.tree.proofs.JoinedParts.{numbered, some_node, before-numbers_of, parts_total-join, parts_labels-join, parts_runs-join, numbers_of-join, length-numbers_of, length-parts_labels, cut_last, part_count-all_but}
use Rattle.tree.proofs.BuiltNodes.{count_built, cut_waiting}
use Rattle.tree.proofs.StandingLists.{drop-drop}

-- no nodes among them
abbrev pub AreGaps : Pool → Type 0
AreGaps [] = Unit {0}
AreGaps (None ∷ os) = AreGaps os
AreGaps (Some k ∷ os) = ⊥

pub gaps_total : (i : ℕ) (w : Parts) → AreGaps (numbers_of i w) → parts_total w ≡ 0
gaps_total i none h = refl
gaps_total i (part t w) h = absurd h
gaps_total i (gap w) h = gaps_total i w h

-- the number of the last node among them says how many there are
pub last_total : (i : ℕ) (w : Parts) (j : ℕ) (k : NodeNumber) → slice_get (numbers_of i w) j ≡ Some (Some k) → AreGaps (drop (suc j) (numbers_of i w)) → k.number + 1 ≡ i + parts_total w
last_total i none j k h g = absurd (cc)
last_total i (part t w) zero k h g =
    let same : record { number = i + node_total t - 1 } ≡ k = cc in
    omega (arith, ap (λ (x : NodeNumber). x.number) same, some_node t, gaps_total (i + node_total t) w g)
last_total i (part t w) (suc j) k h g = omega (arith, last_total (i + node_total t) w j k h g)
last_total i (gap w) zero k h g = absurd (cc)
last_total i (gap w) (suc j) k h g = last_total i w j k h g

pub is_before_at : (n : ℕ) (os : Pool) (i : ℕ) (o : Option NodeNumber) → AreBefore n os → i < length os → o ≡ get_or os i o → IsBefore n o
is_before_at n [] i o h l e = absurd (omega (arith, l))
is_before_at n (x ∷ os) zero o h l e = subst (λ (y : Option NodeNumber). IsBefore n y) (sym e) h.0
is_before_at n (x ∷ os) (suc i) o h l e = is_before_at n os i o h.1 (omega (arith, l)) e

-- one more of a list mapped in place
module _ {X : Type 0} (f : X → X) where
  pub still_there : (xs : List X) (i : ℕ) (d : X) → i < length xs → get_or (map f (take i xs) ++ drop i xs) i d ≡ get_or xs i d
  still_there [] i d h = absurd (omega (arith, h))
  still_there (x ∷ xs) zero d h = refl
  still_there (x ∷ xs) (suc i) d h = still_there xs i d (omega (arith, h))

  pub one_mapped : (xs : List X) (i : ℕ) (d : X) → i < length xs → set (map f (take i xs) ++ drop i xs) i (f (get_or xs i d)) ≡ map f (take (suc i) xs) ++ drop (suc i) xs
  one_mapped [] i d h = absurd (omega (arith, h))
  one_mapped (x ∷ xs) zero d h = refl
  one_mapped (x ∷ xs) (suc i) d h = ap (λ us. f x ∷ us) (one_mapped xs i d (omega (arith, h)))

-- a list mapped from a place on, as far as another
module _ {X : Type 0} (f : X → X) where
  abbrev pub mapped_between : ℕ → ℕ → List X → List X
  mapped_between zero to xs = map f (take to xs) ++ drop to xs
  mapped_between (suc from) zero xs = xs
  mapped_between (suc from) (suc to) [] = []
  mapped_between (suc from) (suc to) (x ∷ xs) = x ∷ mapped_between from to xs

  pub none_between : (n : ℕ) (xs : List X) → mapped_between n n xs ≡ xs
  none_between zero xs = refl
  none_between (suc n) [] = refl
  none_between (suc n) (x ∷ xs) = ap (λ us. x ∷ us) (none_between n xs)

  pub still_between : (n i : ℕ) (xs : List X) (d : X) → n ≤ i → i < length xs → get_or (mapped_between n i xs) i d ≡ get_or xs i d
  still_between zero i xs d l h = still_there f xs i d h
  still_between (suc n) zero xs d l h = refl
  still_between (suc n) (suc i) [] d l h = refl
  still_between (suc n) (suc i) (x ∷ xs) d l h = still_between n i xs d (omega (arith, l)) (omega (arith, h))

  pub one_between : (n i : ℕ) (xs : List X) (d : X) → n ≤ i → i < length xs → set (mapped_between n i xs) i (f (get_or xs i d)) ≡ mapped_between n (suc i) xs
  one_between zero i xs d l h = one_mapped f xs i d h
  one_between (suc n) zero xs d l h = absurd (omega (arith, l))
  one_between (suc n) (suc i) [] d l h = absurd (omega (arith, h))
  one_between (suc n) (suc i) (x ∷ xs) d l h = ap (λ us. x ∷ us) (one_between n i xs d (omega (arith, l)) (omega (arith, h)))

  pub all_between : (n i : ℕ) (xs : List X) → length xs ≤ i → n ≤ length xs → mapped_between n i xs ≡ take n xs ++ map f (drop n xs)
  all_between zero i xs h l =
      ap (λ us. map f us ++ drop i xs) (take_all i xs h) ∙ ap (λ us. map f xs ++ us) (drop_all i xs h) ∙ append-nil (map f xs)
  all_between (suc n) zero [] h l = absurd (omega (arith, l))
  all_between (suc n) zero (x ∷ xs) h l = absurd (omega (arith, h))
  all_between (suc n) (suc i) [] h l = absurd (omega (arith, l))
  all_between (suc n) (suc i) (x ∷ xs) h l = ap (λ us. x ∷ us) (all_between n i xs (omega (arith, h)) (omega (arith, l)))

-- Nodes whose parts stand in the order of the nodes

order_append : (size mid at : ℕ) (xs ys : List FlatNode) → AreInOrder mid at xs → AreInOrder size mid ys → AreInOrder size at (xs ++ ys)
order_append size mid at [] ys h g = subst (λ n. AreInOrder size n ys) (sym h) g
order_append size mid at (x ∷ xs) ys h g = (h.0, order_append size mid (at + x.count) xs ys h.1 g)

pub order_ends : (size at : ℕ) (es : List FlatNode) → AreInOrder size at es → at ≤ size
order_ends size at [] h = omega (arith, h)
order_ends size at (e ∷ es) h = omega (arith, order_ends size (at + e.count) es h.1)

-- those of the nodes in front don't look at what is behind
runs_front : (front more : Pool) (at : ℕ) (es : List FlatNode) → AreInOrder (length front) at es → node_runs (front ++ more) es ≡ node_runs front es
runs_front front more at [] h = refl
runs_front front more at (e ∷ es) h =
    let fits : e.first + e.count ≤ length front = omega (arith, h.0, order_ends (length front) (at + e.count) es h.1) in
    let here : run_of (front ++ more) e ≡ run_of front e =
    ap (take e.count) (drop-append-le e.first front more (omega (arith, fits))) ∙ take-append-le e.count (drop e.first front) more (omega (arith, fits, length-drop e.first front)) in
    let rest = runs_front front more (at + e.count) es h.1 in
    cc

map-take : {X Y : Type 0} (f : X → Y) (n : ℕ) (xs : List X) → take n (map f xs) ≡ map f (take n xs)
map-take f zero xs = refl
map-take f (suc n) [] = refl
map-take f (suc n) (x ∷ xs) = ap (λ us. f x ∷ us) (map-take f n xs)

map-drop : {X Y : Type 0} (f : X → Y) (n : ℕ) (xs : List X) → drop n (map f xs) ≡ map f (drop n xs)
map-drop f zero xs = refl
map-drop f (suc n) [] = refl
map-drop f (suc n) (x ∷ xs) = map-drop f n xs

-- those of the nodes behind move up with the list behind
runs_behind : (front more : Pool) (size at : ℕ) (es : List FlatNode) → length front ≤ at → AreInOrder size at es → node_runs (front ++ map moved_up more) es ≡ map (map moved_up) (node_runs (front ++ more) es)
runs_behind front more size at [] l h = refl
runs_behind front more size at (e ∷ es) l h =
    let far : e.first ≡ length front + (e.first - length front) = omega (arith, h.0, l) in
    let n = e.first - length front in
    let here : run_of (front ++ map moved_up more) e ≡ map moved_up (run_of (front ++ more) e) =
    ap (λ i. take e.count (drop i (front ++ map moved_up more))) far
    ∙ ap (take e.count) (drop-append-add front (map moved_up more) n ∙ map-drop moved_up n more)
    ∙ map-take moved_up e.count (drop n more)
    ∙ ap (λ (os : Pool). map moved_up (take e.count os)) (sym (drop-append-add front more n))
    ∙ ap (λ i. map moved_up (take e.count (drop i (front ++ more)))) (sym far) in
    let rest = runs_behind front more size (at + e.count) es (omega (arith, l)) h.1 in
    cc

-- A tree whose nodes move up

moved_numbers : (i : ℕ) (w : Parts) → map moved_up (numbers_of i w) ≡ numbers_of (suc i) w
moved_numbers i none = refl
moved_numbers i (gap w) = ap (λ (os : Pool). None ∷ os) (moved_numbers i w)
moved_numbers i (part t w) =
    let same : (i + node_total t - 1) + 1 ≡ suc i + node_total t - 1 = omega (arith, some_node t) in
    let at : suc (i + node_total t) ≡ suc i + node_total t = omega arith in
    ap (λ n. Some (numbered n) ∷ map moved_up (numbers_of (i + node_total t) w)) same
    ∙ ap (λ (os : Pool). Some (record { number = suc i + node_total t - 1 }) ∷ os) (moved_numbers (i + node_total t) w ∙ ap (λ n. numbers_of n w) at)

mutual
  moved_runs : (i : ℕ) (t : Tree) → map (map moved_up) (runs_of i t) ≡ runs_of (suc i) t
  moved_runs i (node k w g s e ps) =
      map-append (map moved_up) (parts_runs i ps) (numbers_of i ps ∷ [])
      ∙ ap (λ (rs : List Pool). rs ++ map moved_up (numbers_of i ps) ∷ []) (moved_parts_runs i ps)
      ∙ ap (λ (os : Pool). parts_runs (suc i) ps ++ os ∷ []) (moved_numbers i ps)

  moved_parts_runs : (i : ℕ) (ps : Parts) → map (map moved_up) (parts_runs i ps) ≡ parts_runs (suc i) ps
  moved_parts_runs i none = refl
  moved_parts_runs i (gap ps) = moved_parts_runs i ps
  moved_parts_runs i (part t ps) =
      let at : suc (i + node_total t) ≡ suc i + node_total t = omega arith in
      map-append (map moved_up) (runs_of i t) (parts_runs (i + node_total t) ps)
      ∙ ap (λ (rs : List Pool). rs ++ map (map moved_up) (parts_runs (i + node_total t) ps)) (moved_runs i t)
      ∙ ap (λ (rs : List Pool). runs_of (suc i) t ++ rs) (moved_parts_runs (i + node_total t) ps ∙ ap (λ n. parts_runs n ps) at)

-- each node's parts are before it
abbrev RunsBefore : ℕ → List Pool → Type 0
RunsBefore i [] = Unit {0}
RunsBefore i (r ∷ rs) = AreBefore i r × RunsBefore (i + 1) rs

before-append : (i : ℕ) (xs ys : List Pool) → RunsBefore i xs → RunsBefore (i + length xs) ys → RunsBefore i (xs ++ ys)
before-append i [] ys h g = let at : i + 0 ≡ i = omega arith in subst (λ n. RunsBefore n ys) at g
before-append i (x ∷ xs) ys h g =
    let at : i + suc (length xs) ≡ (i + 1) + length xs = omega arith in
    (h.0, before-append (i + 1) xs ys h.1 (subst (λ n. RunsBefore n ys) at g))

mutual
  tree_before : (i : ℕ) (t : Tree) → RunsBefore i (runs_of i t)
  tree_before i (node k w g s e ps) =
      let at : i + parts_total ps ≡ i + length (parts_runs i ps) = omega (arith, length-parts_runs i ps) in
      before-append i (parts_runs i ps) (numbers_of i ps ∷ []) (parts_before i ps) (subst (λ n. AreBefore n (numbers_of i ps)) at (before-numbers_of i ps), tt)

  parts_before : (i : ℕ) (ps : Parts) → RunsBefore i (parts_runs i ps)
  parts_before i none = tt
  parts_before i (gap ps) = parts_before i ps
  parts_before i (part t ps) =
      let at : i + node_total t ≡ i + length (runs_of i t) = omega (arith, length-runs i t) in
      before-append i (runs_of i t) (parts_runs (i + node_total t) ps) (tree_before i t) (subst (λ n. RunsBefore n (parts_runs (i + node_total t) ps)) at (parts_before (i + node_total t) ps))

linked_runs : (pool : Pool) (i at : ℕ) (es : List FlatNode) → AreInOrder (length pool) at es → RunsBefore i (node_runs pool es) → AreLinked pool i es
linked_runs pool i at [] h g = tt
linked_runs pool i at (e ∷ es) h g = (omega (arith, h.0, order_ends (length pool) (at + e.count) es h.1), (g.0, linked_runs pool (i + 1) (at + e.count) es h.1 g.1))

-- all parts are nodes before the last
order_before : (pool : Pool) (i at : ℕ) (es : List FlatNode) → AreInOrder (length pool) at es → AreLinked pool i es → AreBefore (i + length es) (drop at pool)
order_before pool i at [] h g = subst (λ (os : Pool). AreBefore (i + 0) os) (sym (drop_all at pool (omega (arith, h)))) tt
order_before pool i at (e ∷ es) h g =
    let rest = order_before pool (i + 1) (at + e.count) es h.1 g.1.1 in
    let all : run_of pool e ++ drop (at + e.count) pool ≡ drop at pool =
    ap (λ n. take e.count (drop n pool) ++ drop (at + e.count) pool) h.0 ∙ ap (λ (os : Pool). take e.count (drop at pool) ++ os) (drop-drop at e.count pool) ∙ take-append-drop e.count (drop at pool) in
    subst (λ (os : Pool). AreBefore (i + suc (length es)) os) all
    (AreBefore-append (i + suc (length es)) (run_of pool e) (drop (at + e.count) pool) (AreBefore-more i (i + suc (length es)) (run_of pool e) (omega arith) g.1.0)
    (AreBefore-more ((i + 1) + length es) (i + suc (length es)) (drop (at + e.count) pool) (omega arith) rest))

-- One more node before others

-- two lists that are the same and begin with lists of the same length
same_front : {X : Type 0} (xs us ys vs : List X) → length xs ≡ length us → xs ++ ys ≡ us ++ vs → (xs ≡ us) × (ys ≡ vs)
same_front [] [] ys vs l h = (refl, h)
same_front [] (u ∷ us) ys vs l h = absurd (omega (arith, l))
same_front (x ∷ xs) [] ys vs l h = absurd (omega (arith, l))
same_front (x ∷ xs) (u ∷ us) ys vs l h =
    let head : x ≡ u = cc in
    let tail : xs ++ ys ≡ us ++ vs = cc in
    let rest = same_front xs us ys vs (omega (arith, l)) tail in
    (ap (λ z. z ∷ xs) head ∙ ap (λ zs. u ∷ zs) rest.0, rest.1)

-- where the parts of the nodes from a place on begin
pub starts_some : (size at : ℕ) (es : List FlatNode) (k : ℕ) (x : FlatNode) → AreInOrder size at es → k < length es → x ≡ get_or es k x → AreInOrder x.first at (take k es) × AreInOrder size x.first (drop k es)
starts_some size at [] k x h l g = absurd (omega (arith, l))
starts_some size at (e ∷ es) zero x h l g =
    let same : x.first ≡ e.first = ap (λ (y : FlatNode). y.first) g in
    (sym h.0 ∙ sym same, (sym same, subst (λ n. AreInOrder size (n + e.count) es) (sym h.0 ∙ sym same) h.1))
starts_some size at (e ∷ es) (suc k) x h l g =
    let r = starts_some size (at + e.count) es k x h.1 (omega (arith, l)) g in
    ((h.0, r.0), r.1)

-- what is there of a builder before one more node is put before others
pub record Splits (a : FlatBuilder) (base own : Parts) (xs ys : List FlatNode) (front more ws vs : Pool) : Type 0 where
  pub nodes : a.nodes.items ≡ xs ++ ys
  pub parts : a.parts.items ≡ front ++ more
  pub waiting : a.waiting.items ≡ ws ++ vs
  pub before : length xs ≡ parts_total base
  pub kept : length ws ≡ part_count base
  pub in_front : AreInOrder (length front) 0 xs
  pub behind : AreInOrder (length a.parts.items) (length front) ys

pub one_before : (a b : FlatBuilder) (l : Label) (base own : Parts) (xs ys : List FlatNode) (front more ws vs : Pool) (e : FlatNode) → AreNodesOf a (join base own) → Splits a base own xs ys front more ws vs
    → b.nodes.items ≡ xs ++ (e ∷ ys) → b.parts.items ≡ front ++ map moved_up more → b.waiting.items ≡ ws ++ (Some (record { number = length xs }) ∷ map moved_up vs)
    → node_label e ≡ l → e.first ≡ length front → e.count ≡ 0 → length a.nodes.items < most → AreNodesOf b (join base (part (labelled l) own))
one_before a b l base own xs ys front more ws vs e h s n p q label first count few =
    let pool = front ++ more in
    let moved = front ++ map moved_up more in
    let i = parts_total base in
    let at : 0 + i ≡ i = omega arith in
    let t = labelled l in
    let qs = part t own in
    let w = join base qs in
    let all_labels : node_labels xs ++ node_labels ys ≡ parts_labels base ++ parts_labels own =
    sym (map-append (λ (x : FlatNode). node_label x) xs ys) ∙ ap node_labels (sym s.nodes) ∙ h.labels ∙ parts_labels-join base own in
    let split_labels = same_front (node_labels xs) (parts_labels base) (node_labels ys) (parts_labels own)
    (omega (arith, length-map xs (λ (x : FlatNode). node_label x), length-parts_labels base, s.before)) all_labels in
    let labels : node_labels b.nodes.items ≡ parts_labels w =
    ap node_labels n ∙ map-append (λ (x : FlatNode). node_label x) xs (e ∷ ys)
    ∙ ap (λ (ls : List Label). ls ++ (node_label e ∷ node_labels ys)) split_labels.0
    ∙ ap (λ (ls : List Label). parts_labels base ++ (node_label e ∷ ls)) split_labels.1
    ∙ ap (λ (x : Label). parts_labels base ++ (x ∷ parts_labels own)) label
    ∙ sym (parts_labels-join base qs) in
    let all_runs : node_runs pool xs ++ node_runs pool ys ≡ parts_runs 0 base ++ parts_runs i own =
    sym (map-append (run_of pool) xs ys) ∙ ap (node_runs pool) (sym s.nodes) ∙ ap (λ (os : Pool). node_runs os a.nodes.items) (sym s.parts) ∙ h.runs ∙ parts_runs-join 0 base own
    ∙ ap (λ m. parts_runs 0 base ++ parts_runs m own) at in
    let split_runs = same_front (node_runs pool xs) (parts_runs 0 base) (node_runs pool ys) (parts_runs i own)
    (omega (arith, length-map xs (run_of pool), length-parts_runs 0 base, s.before)) all_runs in
    let size : length a.parts.items ≡ length pool = ap length s.parts in
    let front_runs : node_runs moved xs ≡ parts_runs 0 base =
    runs_front front (map moved_up more) 0 xs s.in_front ∙ sym (runs_front front more 0 xs s.in_front) ∙ split_runs.0 in
    let back_runs : node_runs moved ys ≡ parts_runs (suc i) own =
    runs_behind front more (length a.parts.items) (length front) ys (omega arith) s.behind ∙ ap (map (map moved_up)) split_runs.1 ∙ moved_parts_runs i own in
    let none_of : run_of moved e ≡ [] = ap (λ m. take m (drop e.first moved)) count in
    let one : (0 + i) + node_total t ≡ suc i = omega arith in
    let runs : node_runs b.parts.items b.nodes.items ≡ parts_runs 0 w =
    ap (λ (os : Pool). node_runs os b.nodes.items) p ∙ ap (node_runs moved) n ∙ map-append (run_of moved) xs (e ∷ ys)
    ∙ ap (λ (rs : List Pool). rs ++ (run_of moved e ∷ node_runs moved ys)) front_runs
    ∙ ap (λ (os : Pool). parts_runs 0 base ++ (os ∷ node_runs moved ys)) none_of
    ∙ ap (λ (rs : List Pool). parts_runs 0 base ++ ([] ∷ rs)) (back_runs ∙ ap (λ m. parts_runs m own) (sym one))
    ∙ sym (parts_runs-join 0 base qs) in
    let all_waiting : ws ++ vs ≡ numbers_of 0 base ++ numbers_of i own =
    sym s.waiting ∙ h.waiting ∙ numbers_of-join 0 base own ∙ ap (λ m. numbers_of 0 base ++ numbers_of m own) at in
    let split_waiting = same_front ws (numbers_of 0 base) vs (numbers_of i own) (omega (arith, s.kept, length-numbers_of 0 base)) all_waiting in
    let own_number : length xs ≡ (0 + i) + node_total t - 1 = omega (arith, s.before) in
    let waiting : b.waiting.items ≡ numbers_of 0 w =
    q ∙ ap (λ (os : Pool). os ++ (Some (record { number = length xs }) ∷ map moved_up vs)) split_waiting.0
    ∙ ap (λ m. numbers_of 0 base ++ (Some (record { number = m }) ∷ map moved_up vs)) own_number
    ∙ ap (λ (os : Pool). numbers_of 0 base ++ (Some (record { number = (0 + i) + node_total t - 1 }) ∷ os)) (ap (map moved_up) split_waiting.1 ∙ moved_numbers i own ∙ ap (λ m. numbers_of m own) (sym one))
    ∙ sym (numbers_of-join 0 base qs) in
    let new_size : length b.parts.items ≡ length a.parts.items =
    omega (arith, ap length p, size, length-append front (map moved_up more), length-append front more, length-map more moved_up) in
    let count_all : length b.nodes.items ≡ length a.nodes.items + 1 = omega (arith, ap length n, ap length s.nodes, length-append xs ys, length-append xs (e ∷ ys)) in
    let total : length a.nodes.items ≡ parts_total (join base own) = count_built a (join base own) h in
    let one_more_total : parts_total w ≡ parts_total (join base own) + 1 = omega (arith, parts_total-join base own, parts_total-join base qs) in
    let ordered : AreInOrder (length b.parts.items) 0 b.nodes.items =
    subst (λ (es : List FlatNode). AreInOrder (length b.parts.items) 0 es) (sym n)
    (order_append (length b.parts.items) (length front) 0 xs (e ∷ ys) s.in_front
    (first, subst (λ m. AreInOrder m (length front + e.count) ys) (sym new_size) (let same : length front ≡ length front + e.count = omega (arith, count) in subst (λ m. AreInOrder (length a.parts.items) m ys) same s.behind))) in
    record {
      sound = record {
        linked = linked_runs b.parts.items 0 0 b.nodes.items ordered (subst (λ (rs : List Pool). RunsBefore 0 rs) (sym runs) (parts_before 0 w));
        waiting = subst (λ (os : Pool). AreBefore (length b.nodes.items) os) (sym waiting) (AreBefore-more (0 + parts_total w) (length b.nodes.items) (numbers_of 0 w) (omega (arith, count_all, total, one_more_total)) (before-numbers_of 0 w));
        in_order = ordered;
        few_nodes = omega (arith, few, count_all);
        few_parts = omega (arith, new_size, h.sound.few_parts);
      };
      labels = labels;
      runs = runs;
      waiting = waiting;
    }

-- a node is put before the last so many
pub put_before : (a b : FlatBuilder) (l : Label) (count kept number first : ℕ) (w : Parts) (e : FlatNode) → AreNodesOf a w → kept ≡ length a.waiting.items - count
    → ((u : Parts) → take kept a.waiting.items ≡ numbers_of 0 u → number ≡ parts_total u) → number ≤ length a.nodes.items → first ≤ length a.parts.items
    → AreInOrder first 0 (take number a.nodes.items) → AreInOrder (length a.parts.items) first (drop number a.nodes.items)
    → b.nodes.items ≡ take number a.nodes.items ++ (e ∷ drop number a.nodes.items) → b.parts.items ≡ take first a.parts.items ++ map moved_up (drop first a.parts.items)
    → b.waiting.items ≡ take kept a.waiting.items ++ (Some (record { number = number }) ∷ map moved_up (drop kept a.waiting.items))
    → node_label e ≡ l → e.first ≡ first → e.count ≡ 0 → length a.nodes.items < most → AreNodesOf b (join (all_but count w) (part (labelled l) (last_parts count w)))
put_before a b l count kept number first w e h k total low fits front behind n p q label place size few =
    let base = all_but count w in
    let own = last_parts count w in
    let whole = subst (λ (u : Parts). AreNodesOf a u) (sym (cut_last count w)) h in
    let at : kept ≡ part_count base = omega (arith, k, ap length h.waiting, length-numbers_of 0 w, part_count-all_but count w) in
    let c = cut_waiting a base own kept whole at in
    let xs = take number a.nodes.items in
    let before : length xs ≡ number = length-take-le number a.nodes.items low in
    let starts : length (take first a.parts.items) ≡ first = length-take-le first a.parts.items fits in
    one_before a b l base own xs (drop number a.nodes.items) (take first a.parts.items) (drop first a.parts.items) (take kept a.waiting.items) (drop kept a.waiting.items) e whole
    (record {
      nodes = sym (take-append-drop number a.nodes.items);
      parts = sym (take-append-drop first a.parts.items);
      waiting = sym (take-append-drop kept a.waiting.items);
      before = before ∙ total base c.taken;
      kept = ap length c.taken ∙ length-numbers_of 0 base;
      in_front = subst (λ m. AreInOrder m 0 xs) (sym starts) front;
      behind = subst (λ m. AreInOrder (length a.parts.items) m (drop number a.nodes.items)) (sym starts) behind;
    })
    n p
    (q ∙ ap (λ m. take kept a.waiting.items ++ (Some (record { number = m }) ∷ map moved_up (drop kept a.waiting.items))) (sym before))
    label (place ∙ sym starts) size few

-- what the calls on the way need
pub all_before : (g : FlatBuilder) → IsSound g → AreBefore (length g.nodes.items) g.parts.items
all_before g s = AreBefore-more (0 + length g.nodes.items) (length g.nodes.items) g.parts.items (omega arith) (order_before g.parts.items 0 0 g.nodes.items s.in_order s.linked)

-- what a call gives that goes over all of a list, and what is put into it then
pub whole_items : {X : Type 0} (n : ℕ) (ws xs : List X) → length ws ≡ n → take n (ws ++ drop (length ws) xs) ≡ ws
whole_items n ws xs h = ap (λ m. take m (ws ++ drop (length ws) xs)) (sym h) ∙ take-append_seam ws (drop (length ws) xs)

pub cut_moved : (n : ℕ) (os us : Pool) → n ≤ length os → us ≡ take n os ++ map moved_up (drop n os) → (take n us ≡ take n os) × (drop n us ≡ map moved_up (drop n os))
cut_moved n os us l h =
    let front = take n os in
    let back = map moved_up (drop n os) in
    let at : n ≡ length front = sym (length-take-le n os l) in (
      ap (take n) h ∙ ap (λ m. take m (front ++ back)) at ∙ take-append_seam front back,
      ap (drop n) h ∙ ap (λ m. drop m (front ++ back)) at ∙ drop-append_seam front back,
    )
