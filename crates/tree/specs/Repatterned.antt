-- Nodes that become patterns.
use Rattle.std.specs.Prelude.{◌≡◌, ℕ, List, Option, Some, None}
use Rattle.tree.specs.declared.flat_node.NodeNumber.{NodeNumber}
use Rattle.tree.specs.declared.flat_node.FlatNode.{FlatNode}
use Rattle.tree.specs.declared.kind.Kind.{Kind}
use Rattle.tree.specs.declared.kind.Kind.TheVariants.{ArrayExpression, ObjectExpression, SpreadElement, Property}
use Rattle.tree.specs.Flat.{numbers_of}
use Rattle.tree.specs.Labels.{Label, labels_of, node_label, node_labels, parts_labels}
use Rattle.tree.specs.Patterns.{pattern_kind, pattern_text, pattern_tree, pattern_parts}
use Rattle.tree.specs.Standing.{Stands, AreStanding, node_places, with_from}
use Rattle.tree.specs.Tree.{Tree, Parts}

-- from which of a node's parts on they become patterns
abbrev pub first_made : Kind → Option ℕ
first_made ArrayExpression = Some 0
first_made ObjectExpression = Some 0
first_made SpreadElement = Some 0
first_made Property = Some 1
first_made _ = None

abbrev pub pattern_label : Label → Label
pattern_label l = record { kind = pattern_kind l.kind; text = pattern_text l.kind l.text; flags = l.flags; start = l.start; stop = l.stop }

pub record IsPatternOf (old new : FlatNode) : Type 0 where
  pub label : node_label new ≡ pattern_label (node_label old)
  pub first : new.first ≡ old.first
  pub count : new.count ≡ old.count

-- each node keeps its parts
pub record KeepsParts (old new : List FlatNode) : Type 0 where
  pub places : node_places new ≡ node_places old

abbrev pub MakesPattern : List (Option NodeNumber) → List FlatNode → List FlatNode → ℕ → Type 0
MakesPattern pool old new number =
    (first : ℕ) (t : Tree) → Stands pool old first number t → node_labels new ≡ with_from first (labels_of (pattern_tree t)) (node_labels old)

abbrev pub MakesPatterns : List (Option NodeNumber) → List FlatNode → List FlatNode → List (Option NodeNumber) → ℕ → Type 0
MakesPatterns pool old new run n =
    (first : ℕ) (ps : Parts) → run ≡ numbers_of first ps → AreStanding pool old first ps → node_labels new ≡ with_from first (parts_labels (pattern_parts n ps)) (node_labels old)
