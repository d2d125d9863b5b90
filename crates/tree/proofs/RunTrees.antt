-- The trees of a vector's nodes are given by the nodes' labels and parts.
use Rattle.std.proofs.Common.{◌≡◌, ℕ, ◌+◌, ◌-◌, List, [], ◌∷◌, ◌++◌, length, map, Option, Some, slice_get, get_or, refl, sym, ap, ◌∙◌, arith, append_assoc, length-append, append-nil}
use Rattle.tree.specs.Tree.{Tree, Parts, node, none, part, gap, maybe, parts_with_gaps, node_total}
use Rattle.tree.specs.declared.flat_node.FlatNode.{FlatNode}
use Rattle.tree.specs.declared.flat_tree.FlatTree.{FlatTree}
use Rattle.tree.specs.Flat.{named, flat_tree, trees, no_tree, post_order, parts_post_order, numbers_of, runs_of, parts_runs}
use Rattle.tree.specs.Growth.{node_runs, node_rows}
use Rattle.tree.specs.Labels.{Label, node_labels, labels_of, parts_labels}
use Rattle.tree.specs.NodeUses.{rows_of}
use Rattle.tree.specs.Whole.{whole_tree, IsWhole}
use Rattle.tree.proofs.FlatTrees.{Pool, get_or-append_mid, slice_get-append_mid}
use Rattle.tree.proofs.Grown.{length-post_order, length-parts_post_order}
use Rattle.tree.proofs.JoinedParts.{some_node}

abbrev made : Label → Pool → List Tree → Tree
made l r ts = node l.kind l.text l.flags l.start l.stop (parts_with_gaps (map (named ts) r))

abbrev made_trees : List Tree → List Label → List Pool → List Tree
made_trees ts [] rs = ts
made_trees ts (l ∷ ls) [] = ts
made_trees ts (l ∷ ls) (r ∷ rs) = made_trees (ts ++ made l r ts ∷ []) ls rs

trees_made : (pool : Pool) (ts : List Tree) (es : List FlatNode) → trees pool ts es ≡ made_trees ts (node_labels es) (node_runs pool es)
trees_made pool ts [] = refl
trees_made pool ts (e ∷ es) = trees_made pool (ts ++ flat_tree pool e ts ∷ []) es

-- the last of a tree's nodes is its own
last_of_tree : (front behind : List Tree) (t : Tree) → slice_get (front ++ (post_order t ++ behind)) (length front + node_total t - 1) ≡ Some t
last_of_tree front behind (node k w g s e ps) =
    let t : Tree = node k w g s e ps in
    let xs = front ++ parts_post_order ps in
    let at : length front + node_total t - 1 ≡ length xs = omega (arith, length-append front (parts_post_order ps), length-parts_post_order ps) in
    let all : front ++ ((parts_post_order ps ++ t ∷ []) ++ behind) ≡ xs ++ (t ∷ behind) =
    ap (λ (us : List Tree). front ++ us) (append_assoc (parts_post_order ps) (t ∷ []) behind) ∙ sym (append_assoc front (parts_post_order ps) (t ∷ behind)) in
    ap (λ n. slice_get (front ++ ((parts_post_order ps ++ t ∷ []) ++ behind)) n) at ∙ ap (λ (us : List Tree). slice_get us (length xs)) all ∙ slice_get-append_mid xs t behind

-- the numbers of parts name them
named_parts : (front behind : List Tree) (i : ℕ) (ps : Parts) → i ≡ length front → parts_with_gaps (map (named (front ++ (parts_post_order ps ++ behind))) (numbers_of i ps)) ≡ ps
named_parts front behind i none h = refl
named_parts front behind i (gap ps) h = ap gap (named_parts front behind i ps h)
named_parts front behind i (part t ps) h =
    let xs = front ++ post_order t in
    let all : front ++ ((post_order t ++ parts_post_order ps) ++ behind) ≡ xs ++ (parts_post_order ps ++ behind) =
    ap (λ (us : List Tree). front ++ us) (append_assoc (post_order t) (parts_post_order ps) behind) ∙ sym (append_assoc front (post_order t) (parts_post_order ps ++ behind)) in
    let here : slice_get (front ++ ((post_order t ++ parts_post_order ps) ++ behind)) (i + node_total t - 1) ≡ Some t =
    ap (λ n. slice_get (front ++ ((post_order t ++ parts_post_order ps) ++ behind)) (n + node_total t - 1)) h
    ∙ ap (λ (us : List Tree). slice_get (front ++ us) (length front + node_total t - 1)) (append_assoc (post_order t) (parts_post_order ps) behind)
    ∙ last_of_tree front (parts_post_order ps ++ behind) t in
    let rest : parts_with_gaps (map (named (front ++ ((post_order t ++ parts_post_order ps) ++ behind))) (numbers_of (i + node_total t) ps)) ≡ ps =
    ap (λ (us : List Tree). parts_with_gaps (map (named us) (numbers_of (i + node_total t) ps))) all
    ∙ named_parts xs behind (i + node_total t) ps (omega (arith, h, length-append front (post_order t), length-post_order t)) in
    ap (λ (o : Option Tree). maybe o (parts_with_gaps (map (named (front ++ ((post_order t ++ parts_post_order ps) ++ behind))) (numbers_of (i + node_total t) ps)))) here
    ∙ ap (part t) rest

mutual
  made_tree : (ts : List Tree) (i : ℕ) (t : Tree) (ls : List Label) (rs : List Pool) → i ≡ length ts → made_trees ts (labels_of t ++ ls) (runs_of i t ++ rs) ≡ made_trees (ts ++ post_order t) ls rs
  made_tree ts i (node k w g s e ps) ls rs h =
      let t : Tree = node k w g s e ps in
      let l : Label = record { kind = k; text = w; flags = g; start = s; stop = e } in
      let us = ts ++ parts_post_order ps in
      let own : made l (numbers_of i ps) us ≡ t =
      ap (λ (vs : List Tree). made l (numbers_of i ps) (ts ++ vs)) (sym (append-nil (parts_post_order ps))) ∙ ap (node k w g s e) (named_parts ts [] i ps h) in
      ap (λ (ms : List Label). made_trees ts ms ((parts_runs i ps ++ numbers_of i ps ∷ []) ++ rs)) (append_assoc (parts_labels ps) (l ∷ []) ls)
      ∙ ap (λ (qs : List Pool). made_trees ts (parts_labels ps ++ (l ∷ ls)) qs) (append_assoc (parts_runs i ps) (numbers_of i ps ∷ []) rs)
      ∙ made_parts ts i ps (l ∷ ls) (numbers_of i ps ∷ rs) h
      ∙ ap (λ (x : Tree). made_trees (us ++ x ∷ []) ls rs) own
      ∙ ap (λ (vs : List Tree). made_trees vs ls rs) (append_assoc ts (parts_post_order ps) (t ∷ []))

  made_parts : (ts : List Tree) (i : ℕ) (ps : Parts) (ls : List Label) (rs : List Pool) → i ≡ length ts → made_trees ts (parts_labels ps ++ ls) (parts_runs i ps ++ rs) ≡ made_trees (ts ++ parts_post_order ps) ls rs
  made_parts ts i none ls rs h = ap (λ (vs : List Tree). made_trees vs ls rs) (sym (append-nil ts))
  made_parts ts i (gap ps) ls rs h = made_parts ts i ps ls rs h
  made_parts ts i (part t ps) ls rs h =
      ap (λ (ms : List Label). made_trees ts ms ((runs_of i t ++ parts_runs (i + node_total t) ps) ++ rs)) (append_assoc (labels_of t) (parts_labels ps) ls)
      ∙ ap (λ (qs : List Pool). made_trees ts (labels_of t ++ (parts_labels ps ++ ls)) qs) (append_assoc (runs_of i t) (parts_runs (i + node_total t) ps) rs)
      ∙ made_tree ts i t (parts_labels ps ++ ls) (parts_runs (i + node_total t) ps ++ rs) h
      ∙ made_parts (ts ++ post_order t) (i + node_total t) ps ls rs (omega (arith, h, length-append ts (post_order t), length-post_order t))
      ∙ ap (λ (vs : List Tree). made_trees vs ls rs) (append_assoc ts (post_order t) (parts_post_order ps))

-- the nodes of a tree, by labels and parts, show it and all below it
pub shown_trees : (pool : Pool) (es : List FlatNode) (t : Tree) → node_labels es ≡ labels_of t → node_runs pool es ≡ runs_of 0 t → trees pool [] es ≡ post_order t
shown_trees pool es t l r =
    trees_made pool [] es
    ∙ ap (λ (ls : List Label). made_trees [] ls (node_runs pool es)) (l ∙ sym (append-nil (labels_of t)))
    ∙ ap (λ (rs : List Pool). made_trees [] (labels_of t ++ []) rs) (r ∙ sym (append-nil (runs_of 0 t)))
    ∙ made_tree [] 0 t [] [] refl

get_last : (t : Tree) (d : Tree) (n : ℕ) → n ≡ node_total t → get_or (post_order t) (n - 1) d ≡ t
get_last (node k w g s e ps) d n h =
    let t : Tree = node k w g s e ps in
    let at : n - 1 ≡ length (parts_post_order ps) = omega (arith, h, length-parts_post_order ps) in
    ap (λ m. get_or (parts_post_order ps ++ t ∷ []) m d) at ∙ get_or-append_mid (parts_post_order ps) t [] d

-- with their rows, they are a whole tree
pub made_whole : (f : FlatTree) (t : Tree) → node_labels f.nodes.items ≡ labels_of t → node_runs f.parts.items f.nodes.items ≡ runs_of 0 t → node_rows f.nodes.items ≡ rows_of t → length f.nodes.items ≡ node_total t
    → (whole_tree f ≡ t) × IsWhole f
made_whole f t l r x n =
    let es = f.nodes.items in
    let all = shown_trees f.parts.items es t l r in
    let same : whole_tree f ≡ t = ap (λ (ts : List Tree). get_or ts (length es - 1) no_tree) all ∙ get_last t no_tree (length es) n in
    (same, record { filled = omega (arith, n, some_node t); nodes = all ∙ ap post_order (sym same); runs = r ∙ ap (runs_of 0) (sym same); rows = x ∙ ap rows_of (sym same) })
