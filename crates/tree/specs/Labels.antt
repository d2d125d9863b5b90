-- Nodes but for their parts.
use Rattle.std.specs.Prelude.{ℕ, List, [], ◌∷◌, ◌++◌, map}
use Rattle.tree.specs.declared.kind.Kind.{Kind}
use Rattle.tree.specs.declared.kind.Flags.{Flags}
use Rattle.tree.specs.declared.flat_node.FlatNode.{FlatNode}
use Rattle.tree.specs.Tree.{Tree, Parts, node, none, part, gap}

pub record Label : Type 0 where
  pub kind : Kind
  pub text : List ℕ
  pub flags : Flags
  pub start : ℕ
  pub stop : ℕ

-- that of a node in the vector
abbrev pub node_label : FlatNode → Label
node_label e = record { kind = e.kind; text = e.text.now; flags = e.flags; start = e.start; stop = e.end }

abbrev pub node_labels : List FlatNode → List Label
node_labels es = map (λ (e : FlatNode). node_label e) es

abbrev pub tree_label : Tree → Label
tree_label (node kind text flags start stop parts) = record { kind = kind; text = text; flags = flags; start = start; stop = stop }

abbrev mutual
  -- those of a tree's nodes, parts before their node
  pub labels_of : Tree → List Label
  labels_of (node kind text flags start stop parts) = parts_labels parts ++ record { kind = kind; text = text; flags = flags; start = start; stop = stop } ∷ []

  pub parts_labels : Parts → List Label
  parts_labels none = []
  parts_labels (part tree rest) = labels_of tree ++ parts_labels rest
  parts_labels (gap rest) = parts_labels rest
