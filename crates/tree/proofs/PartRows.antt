-- The parts of a node in a finished tree hold the rows that they have.
use Rattle.std.proofs.Common.{◌≡◌, ℕ, zero, suc, ◌+◌, ◌-◌, ◌<◌, ◌≤◌, cond, List, [], ◌∷◌, length, Option, Some, None, option_map, slice_get, get_or, refl, sym, ap, ◌∙◌, subst, arith, length-append, append-nil}
use Rattle.tree.specs.Tree.{Tree, Parts, node, none, part, gap, kind_of, flags_of, parts_of, part_count, part_at, parts_take, node_total, parts_total}
use Rattle.tree.specs.Flat.{run_of, numbers_of, runs_of, parts_runs, tree_at}
use Rattle.tree.specs.Growth.{node_rows, node_runs}
use Rattle.tree.specs.declared.flat_node.NodeNumber.{NodeNumber}
use Rattle.tree.specs.declared.flat_node.FlatNode.{FlatNode}
use Rattle.tree.specs.declared.flat_ref.FlatRef.{FlatRef}
use Rattle.tree.specs.declared.node_use.NodeUse.{NodeUse}
use Rattle.tree.specs.declared.node_use.ParentUse.{ParentUse}
use Rattle.tree.specs.declared.flat_tree.FlatTree.{FlatTree}
use Rattle.tree.specs.declared.node_use.NodeUse.TheVariants.{NotEvaluated}
use Rattle.tree.specs.NodeUses.{has_row, own_rows, rows_in, parts_rows, use_in, row_list, parts_row_list, rows_of}
use Rattle.tree.specs.Whole.{whole_tree, IsWhole}
use Rattle.tree.proofs.Wholes.{node_count}
use Rattle.tree.specs.Places.{place_tree}
use Rattle.std.specs.Prelude.{IfSome}
use Rattle.tree.specs.declared.flat_list.FlatList.{FlatList}
use Rattle.tree.specs.Places.{run_parts}
use Rattle.std.specs.Prelude.{Bool, true, false, is_some}
use Rattle.tree.specs.declared.node.Node.{Node}
use Rattle.tree.specs.Node.{node_tree, node_row}
use Rattle.tree.specs.HeldRows.{IsNamed, PlaceHoldsRows, PlaceHoldsRowsFrom, HoldsRows, use_below, row_below}
use Rattle.tree.specs.Standing.{StandsFrom}
use Rattle.tree.proofs.FlatTrees.{Pool}
use Rattle.tree.proofs.StandingLists.{first_of, last_of, only_of}
use Rattle.tree.proofs.StandingNodes.{mapped}
use Rattle.tree.proofs.Parents.{length-runs, length-parts_runs}

-- Numbers

mutual
  pub length-rows : (a : NodeUse) (r : ℕ) (t : Tree) → length (row_list a r t) ≡ node_total t
  length-rows a r (node k w g s e ps) =
      let A : ParentUse = record { node_use = a; kind = k; flags = g } in
      omega (arith, length-append (parts_row_list A (part_count ps) 0 (r + own_rows a k) ps) (cond (has_row a k) (Some r) None ∷ []), length-parts_rows A (part_count ps) 0 (r + own_rows a k) ps)

  pub length-parts_rows : (a : ParentUse) (c i r : ℕ) (ps : Parts) → length (parts_row_list a c i r ps) ≡ parts_total ps
  length-parts_rows a c i r none = refl
  length-parts_rows a c i r (gap ps) = length-parts_rows a c (i + 1) r ps
  length-parts_rows a c i r (part t ps) =
      let st = use_in a c i t in
      omega (arith, length-append (row_list st r t) (parts_row_list a c (i + 1) (r + rows_in st t) ps), length-rows st r t, length-parts_rows a c (i + 1) (r + rows_in st t) ps)

-- a part, and where its nodes and its rows begin
record PartFound (rows : List (Option ℕ)) (runs : List Pool) (a : ParentUse) (c i r : ℕ) (ps : Parts) (j : ℕ) (k : NodeNumber) : Type 0 where
  found : Tree
  first : ℕ
  row : ℕ
  is : part_at ps j ≡ Some found
  numbered : row ≡ r + parts_rows a c i (parts_take j ps)
  number : k.number + 1 ≡ first + node_total found
  rows_there : StandsFrom rows first (row_list (use_in a c (i + j) found) row found)
  runs_there : StandsFrom runs first (runs_of first found)

some_node : (t : Tree) → 1 ≤ node_total t
some_node (node k w g s e ps) = omega arith

part_found : (rows : List (Option ℕ)) (runs : List Pool) (a : ParentUse) (c i r first : ℕ) (ps : Parts) (j : ℕ) (k : NodeNumber) → StandsFrom rows first (parts_row_list a c i r ps) → StandsFrom runs first (parts_runs first ps) →
    slice_get (numbers_of first ps) j ≡ Some (Some k) → PartFound rows runs a c i r ps j k
part_found rows runs a c i r first none j k h g e = absurd (cc)
part_found rows runs a c i r first (gap ps) zero k h g e = absurd (cc)
part_found rows runs a c i r first (gap ps) (suc j) k h g e =
    let f = part_found rows runs a c (i + 1) r first ps j k h g e in
    let at : (i + 1) + j ≡ i + suc j = omega arith in
    record { found = f.found; first = f.first; row = f.row; is = f.is; numbered = f.numbered; number = f.number; rows_there = subst (λ n. StandsFrom rows f.first (row_list (use_in a c n f.found) f.row f.found)) at f.rows_there; runs_there = f.runs_there }
part_found rows runs a c i r first (part t ps) zero k h g e =
    let st = use_in a c i t in
    let at : i ≡ i + 0 = omega arith in
    let same : record { number = first + node_total t - 1 } ≡ k = cc in
    let n = ap (λ (x : NodeNumber). x.number) same in
    let some = some_node t in
    record {
      found = t;
      first = first;
      row = r;
      is = refl;
      numbered = omega arith;
      number = omega (arith, n, some);
      rows_there = subst (λ n. StandsFrom rows first (row_list (use_in a c n t) r t)) at (first_of rows (row_list st r t) (parts_row_list a c (i + 1) (r + rows_in st t) ps) first h);
      runs_there = first_of runs (runs_of first t) (parts_runs (first + node_total t) ps) first g;
    }
part_found rows runs a c i r first (part t ps) (suc j) k h g e =
    let st = use_in a c i t in
    let rest = parts_row_list a c (i + 1) (r + rows_in st t) ps in
    let behind = first + node_total t in
    let f = part_found rows runs a c (i + 1) (r + rows_in st t) behind ps j k
    (last_of rows (row_list st r t) rest first behind (omega (arith, length-rows st r t)) h)
    (last_of runs (runs_of first t) (parts_runs behind ps) first behind (omega (arith, length-runs first t)) g) e in
    let at : (i + 1) + j ≡ i + suc j = omega arith in
    record { found = f.found; first = f.first; row = f.row; is = f.is; numbered = omega (arith, f.numbered); number = f.number; rows_there = subst (λ n. StandsFrom rows f.first (row_list (use_in a c n f.found) f.row f.found)) at f.rows_there; runs_there = f.runs_there }

-- A node's own row and parts, the last of those of its nodes

own_row_there : (rows : List (Option ℕ)) (a : NodeUse) (r first k : ℕ) (t : Tree) → k + 1 ≡ first + node_total t → StandsFrom rows first (row_list a r t) → slice_get rows k ≡ Some (cond (has_row a (kind_of t)) (Some r) None)
own_row_there rows a r first k (node q w g s e ps) n h =
    let A : ParentUse = record { node_use = a; kind = q; flags = g } in
    let below = parts_row_list A (part_count ps) 0 (r + own_rows a q) ps in
    only_of rows (cond (has_row a q) (Some r) None) k (last_of rows below (cond (has_row a q) (Some r) None ∷ []) first k (omega (arith, n, length-parts_rows A (part_count ps) 0 (r + own_rows a q) ps)) h)

own_run_there : (runs : List Pool) (first k : ℕ) (t : Tree) → k + 1 ≡ first + node_total t → StandsFrom runs first (runs_of first t) → slice_get runs k ≡ Some (numbers_of first (parts_of t))
own_run_there runs first k (node q w g s e ps) n h =
    only_of runs (numbers_of first ps) k (last_of runs (parts_runs first ps) (numbers_of first ps ∷ []) first k (omega (arith, n, length-parts_runs first ps)) h)

same_part : (ps : Parts) (j : ℕ) (t u : Tree) → part_at ps j ≡ Some t → part_at ps j ≡ Some u → t ≡ u
same_part ps j t u h g = cc

-- a part of a node that holds the rows that it has, and the number of its first
pub part_numbered : (p q : FlatRef) (j : ℕ) (k : NodeNumber) (a : NodeUse) (h : PlaceHoldsRows a p) → q.tree.now ≡ p.tree.now → k.number < length p.tree.now.nodes.items → q.node.now ≡ get_or p.tree.now.nodes.items k.number q.node.now →
    slice_get (run_of p.tree.now.parts.items p.node.now) j ≡ Some (Some k) → part_at (parts_of (place_tree p)) j ≡ Some (place_tree q) → PlaceHoldsRowsFrom (use_below a (place_tree p) j (place_tree q)) (row_below a h.row (place_tree p) j) q
part_numbered p q j k a h e l m f g =
    let n = place_tree p in
    let ps = parts_of n in
    let es = p.tree.now.nodes.items in
    let pool = p.tree.now.parts.items in
    let A : ParentUse = record { node_use = a; kind = kind_of n; flags = flags_of n } in
    let own = cond (has_row a (kind_of n)) (Some h.row) None in
    let x = part_found (node_rows es) (node_runs pool es) A (part_count ps) 0 (h.row + own_rows a (kind_of n)) h.first ps j k
    (first_of (node_rows es) (parts_row_list A (part_count ps) 0 (h.row + own_rows a (kind_of n)) ps) (own ∷ []) h.first h.rows)
    (first_of (node_runs pool es) (parts_runs h.first ps) (numbers_of h.first ps ∷ []) h.first h.runs)
    (ap (λ (os : Pool). slice_get os j) (sym h.own_run) ∙ f) in
    let same : x.found ≡ place_tree q = same_part ps j x.found (place_tree q) x.is g in
    let at : 0 + j ≡ j = omega arith in
    let number : k.number + 1 ≡ x.first + node_total (place_tree q) = x.number ∙ ap (λ (t : Tree). x.first + node_total t) same in
    let rows : StandsFrom (node_rows es) x.first (row_list (use_below a n j (place_tree q)) x.row (place_tree q)) =
    subst (λ (t : Tree). StandsFrom (node_rows es) x.first (row_list (use_below a n j t) x.row t)) same (subst (λ i. StandsFrom (node_rows es) x.first (row_list (use_in A (part_count ps) i x.found) x.row x.found)) at x.rows_there) in
    let runs : StandsFrom (node_runs pool es) x.first (runs_of x.first (place_tree q)) = subst (λ (t : Tree). StandsFrom (node_runs pool es) x.first (runs_of x.first t)) same x.runs_there in (
      record {
        first = x.first;
        row = x.row;
        rows = subst (λ (t : FlatTree). StandsFrom (node_rows t.nodes.items) x.first (row_list (use_below a n j (place_tree q)) x.row (place_tree q))) (sym e) rows;
        runs = subst (λ (t : FlatTree). StandsFrom (node_runs t.parts.items t.nodes.items) x.first (runs_of x.first (place_tree q))) (sym e) runs;
        own_row = mapped (λ (d : FlatNode). d.row) es k.number q.node.now (cond (has_row (use_below a n j (place_tree q)) (kind_of (place_tree q))) (Some x.row) None) l m
            (own_row_there (node_rows es) (use_below a n j (place_tree q)) x.row x.first k.number (place_tree q) number rows);
        own_run = ap (λ (t : FlatTree). run_of t.parts.items q.node.now) e
            ∙ mapped (run_of pool) es k.number q.node.now (numbers_of x.first (parts_of (place_tree q))) l m (own_run_there (node_runs pool es) x.first k.number (place_tree q) number runs);
      },
      x.numbered,
    )

-- the last node of a whole tree
pub whole_holds : (q : FlatRef) → IsWhole q.tree.now → q.node.now ≡ get_or q.tree.now.nodes.items (length q.tree.now.nodes.items - 1) q.node.now → place_tree q ≡ whole_tree q.tree.now → PlaceHoldsRowsFrom NotEvaluated 1 q
whole_holds q w m x =
    let es = q.tree.now.nodes.items in
    let pool = q.tree.now.parts.items in
    let filled = w.filled in
    let count = node_count q.tree.now w in
    let all = ap node_total x in
    let number : (length es - 1) + 1 ≡ 0 + node_total (place_tree q) = omega (arith, filled, count, all) in
    let low : length es - 1 < length es = omega (arith, filled) in
    let rows : StandsFrom (node_rows es) 0 (row_list NotEvaluated 1 (place_tree q)) = ([], [], w.rows ∙ ap rows_of (sym x) ∙ sym (append-nil (rows_of (place_tree q))), refl) in
    let runs : StandsFrom (node_runs pool es) 0 (runs_of 0 (place_tree q)) = ([], [], w.runs ∙ ap (runs_of 0) (sym x) ∙ sym (append-nil (runs_of 0 (place_tree q))), refl) in (
      record {
        first = 0;
        row = 1;
        rows = rows;
        runs = runs;
        own_row = mapped (λ (d : FlatNode). d.row) es (length es - 1) q.node.now (cond (has_row NotEvaluated (kind_of (place_tree q))) (Some 1) None) low m (own_row_there (node_rows es) NotEvaluated 1 0 (length es - 1) (place_tree q) number rows);
        own_run = mapped (run_of pool) es (length es - 1) q.node.now (numbers_of 0 (parts_of (place_tree q))) low m (own_run_there (node_runs pool es) 0 (length es - 1) (place_tree q) number runs);
      },
      refl,
    )

-- what is named among a node's parts
named_numbered : (p : FlatRef) (l : FlatList) (j : ℕ) (q : FlatRef) → l.tree.now ≡ p.tree.now → l.parts.now ≡ run_of p.tree.now.parts.items p.node.now → run_parts l ≡ parts_of (place_tree p) →
    Some (place_tree q) ≡ part_at (run_parts l) j → IsNamed l j q → (a : NodeUse) (held : PlaceHoldsRows a p) → PlaceHoldsRowsFrom (use_below a (place_tree p) j (place_tree q)) (row_below a held.row (place_tree p) j) q
named_numbered p l j q e r s t h a held =
    part_numbered p q j h.number a held (h.within ∙ e) (subst (λ (f : FlatTree). h.number.number < length f.nodes.items) e h.low) (subst (λ (f : FlatTree). q.node.now ≡ get_or f.nodes.items h.number.number q.node.now) e h.node)
    (ap (λ (os : Pool). slice_get os j) (sym r) ∙ h.is) (ap (λ (ps : Parts). part_at ps j) (sym s) ∙ sym t)

pub named_holds : (p : FlatRef) (l : FlatList) (j : ℕ) (o : Option FlatRef) → l.tree.now ≡ p.tree.now → l.parts.now ≡ run_of p.tree.now.parts.items p.node.now → run_parts l ≡ parts_of (place_tree p) →
    option_map place_tree o ≡ part_at (run_parts l) j → IfSome o (λ q. IsNamed l j q) → IfSome o (λ q. (a : NodeUse) → PlaceHoldsRows a p → PlaceHoldsRows (use_below a (place_tree p) j (place_tree q)) q)
named_holds p l j None e r s t h = tt
named_holds p l j (Some q) e r s t h = λ a held. (named_numbered p l j q e r s t h a held).0

pub named_holds_from : (p : FlatRef) (l : FlatList) (j : ℕ) (o : Option FlatRef) → l.tree.now ≡ p.tree.now → l.parts.now ≡ run_of p.tree.now.parts.items p.node.now → run_parts l ≡ parts_of (place_tree p) →
    option_map place_tree o ≡ part_at (run_parts l) j → IfSome o (λ q. IsNamed l j q) →
    IfSome o (λ q. (a : NodeUse) (row : ℕ) → PlaceHoldsRowsFrom a row p → PlaceHoldsRowsFrom (use_below a (place_tree p) j (place_tree q)) (row_below a row (place_tree p) j) q)
named_holds_from p l j None e r s t h = tt
named_holds_from p l j (Some q) e r s t h = λ a row held.
    subst (λ i. PlaceHoldsRowsFrom (use_below a (place_tree p) j (place_tree q)) (row_below a i (place_tree p) j) q) held.1 (named_numbered p l j q e r s t h a held.0)

pub root_holds : (f : FlatTree) (q : FlatRef) (n : ℕ) → IsWhole f → n ≡ length f.nodes.items → q.tree.now ≡ f → q.node.now ≡ get_or f.nodes.items (n - 1) q.node.now → place_tree q ≡ tree_at f.parts.items f.nodes.items (n - 1) → PlaceHoldsRowsFrom NotEvaluated 1 q
root_holds f q n w e t m x =
    whole_holds q (subst IsWhole (sym t) w)
    (m ∙ ap (λ i. get_or f.nodes.items (i - 1) q.node.now) e ∙ ap (λ (g : FlatTree). get_or g.nodes.items (length g.nodes.items - 1) q.node.now) (sym t))
    (x ∙ ap (λ i. tree_at f.parts.items f.nodes.items (i - 1)) e ∙ ap whole_tree (sym t))

-- a node has a row where it is asked
pub has_its_row : (a : NodeUse) (n : Node) → HoldsRows a n → is_some (node_row n) ≡ has_row a (kind_of (node_tree n))
unfolding HoldsRows node_tree node_row
has_its_row a n h = ap is_some h.own_row ∙ there (has_row a (kind_of (place_tree n.place))) h.row
  where
    there : (b : Bool) (r : ℕ) → is_some (cond b (Some r) None) ≡ b
    there true r = refl
    there false r = refl
