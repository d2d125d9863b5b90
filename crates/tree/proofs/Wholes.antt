-- A whole tree in a vector of nodes.
use Rattle.std.proofs.Common.{◌≡◌, ℕ, ◌-◌, ◌<◌, List, [], length, Option, Some, None, slice_get, get_or, sym, ap, ◌∙◌, arith, subst}
use Rattle.std.proofs.lemmas.Option.{slice_get-get_or}
use Rattle.tree.specs.Tree.{Tree, node_total}
use Rattle.tree.specs.declared.flat_node.FlatNode.{FlatNode}
use Rattle.tree.specs.declared.flat_tree.FlatTree.{FlatTree}
use Rattle.tree.specs.Flat.{trees, tree_at, no_tree, AreLinked, post_order, runs_of}
use Rattle.tree.specs.NodeUses.{rows_of}
use Rattle.tree.specs.Growth.{node_rows, node_runs, held, row_at}
use Rattle.std.proofs.lemmas.List.{length-map}
use Rattle.tree.specs.Whole.{whole_tree, IsWhole}
use Rattle.tree.proofs.FlatTrees.{Pool, length-trees}
use Rattle.tree.proofs.Grown.{length-post_order}

-- a whole tree has as many nodes as the vector
pub node_count : (f : FlatTree) → IsWhole f → length f.nodes.items ≡ node_total (whole_tree f)
node_count f h = omega (arith, length-trees f.parts.items [] f.nodes.items, ap length h.nodes, length-post_order (whole_tree f))

-- and its nodes are those of the vector
pub node_named : (f : FlatTree) (i : ℕ) → IsWhole f → i < length f.nodes.items → slice_get (post_order (whole_tree f)) i ≡ Some (tree_at f.parts.items f.nodes.items i)
node_named f i h l =
    ap (λ (ts : List Tree). slice_get ts i) (sym h.nodes) ∙ slice_get-get_or (trees f.parts.items [] f.nodes.items) i no_tree (omega (arith, length-trees f.parts.items [] f.nodes.items, l))

-- and their rows are those of the tree
pub row_named : (f : FlatTree) (i : ℕ) → IsWhole f → i < length f.nodes.items → slice_get (rows_of (whole_tree f)) i ≡ Some (row_at f.nodes.items i)
row_named f i h l =
    let there : slice_get (node_rows f.nodes.items) i ≡ Some (get_or (node_rows f.nodes.items) i None) =
    slice_get-get_or (node_rows f.nodes.items) i None (omega (arith, l, length-map f.nodes.items (λ (e : FlatNode). e.row))) in
    ap (λ (rs : List (Option ℕ)). slice_get rs i) (sym h.rows) ∙ there ∙ ap Some (sym (ap held there))

-- a copy of its nodes and parts is whole, and shows the same tree
pub copied_whole : (f c : FlatTree) → IsWhole f → c.nodes.items ≡ f.nodes.items → c.parts.items ≡ f.parts.items → (whole_tree c ≡ whole_tree f) × IsWhole c
copied_whole f c h a p =
    let all : trees c.parts.items [] c.nodes.items ≡ trees f.parts.items [] f.nodes.items =
    ap (λ (es : List FlatNode). trees c.parts.items [] es) a ∙ ap (λ (os : Pool). trees os [] f.nodes.items) p in
    let whole : whole_tree c ≡ whole_tree f =
    ap (λ (ts : List Tree). get_or ts (length c.nodes.items - 1) no_tree) all ∙ ap (λ (es : List FlatNode). get_or (trees f.parts.items [] f.nodes.items) (length es - 1) no_tree) a in
    let runs = ap (λ (es : List FlatNode). node_runs c.parts.items es) a ∙ ap (λ (os : Pool). node_runs os f.nodes.items) p in
    (whole, record { filled = omega (arith, ap length a, h.filled); nodes = all ∙ h.nodes ∙ ap post_order (sym whole); runs = runs ∙ h.runs ∙ ap (runs_of 0) (sym whole); rows = ap node_rows a ∙ h.rows ∙ ap rows_of (sym whole) })

-- and its nodes are linked alike
pub copied_links : (pool : Pool) (xs ys : List FlatNode) (os : Pool) → xs ≡ ys → os ≡ pool → AreLinked pool 0 ys → AreLinked os 0 xs
copied_links pool xs ys os a p h = subst (λ (qs : Pool). AreLinked qs 0 xs) (sym p) (subst (λ (es : List FlatNode). AreLinked pool 0 es) (sym a) h)
