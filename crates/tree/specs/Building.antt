-- The vectors of a finished tree while they are filled, and the parts that they show.
use Rattle.std.specs.Prelude.{◌≡◌, ℕ, ◌+◌, ◌<◌, ◌≤◌, List, [], ◌∷◌, ◌++◌, length, take, drop, Some, None}
use Rattle.tree.specs.Tree.{Parts}
use Rattle.tree.specs.Flat.{AreBefore, AreLinked, numbers_of, parts_runs}
use Rattle.tree.specs.Growth.{node_runs}
use Rattle.tree.specs.Labels.{Label, node_label, node_labels, parts_labels}
use Rattle.tree.specs.declared.flat_node.FlatNode.{FlatNode}
use Rattle.tree.specs.declared.flat_builder.FlatBuilder.{FlatBuilder}
use Rattle.tree.specs.declared.flat_builder.NodeLabel.{NodeLabel}

-- 2 ^ 32 - 2
abbrev pub most : ℕ
most = 4294967294

-- the parts of one node stand behind those of another, in the order of the nodes
abbrev pub AreInOrder : ℕ → ℕ → List FlatNode → Type 0
AreInOrder size first [] = first ≡ size
AreInOrder size first (e ∷ es) = (e.first ≡ first) × AreInOrder size (first + e.count) es

-- what its calls need: parts are nodes before theirs, and so are those that wait; and there are not too many
pub record IsSound (g : FlatBuilder) : Type 0 where
  pub linked : AreLinked g.parts.items 0 g.nodes.items
  pub waiting : AreBefore (length g.nodes.items) g.waiting.items
  pub in_order : AreInOrder (length g.parts.items) 0 g.nodes.items
  pub few_nodes : length g.nodes.items ≤ most
  pub few_parts : length g.parts.items ≤ most

-- the nodes are all those of these parts, which wait
pub record AreNodesOf (g : FlatBuilder) (w : Parts) : Type 0 where
  pub sound : IsSound g
  pub labels : node_labels g.nodes.items ≡ parts_labels w
  pub runs : node_runs g.parts.items g.nodes.items ≡ parts_runs 0 w
  pub waiting : g.waiting.items ≡ numbers_of 0 w

abbrev pub given_label : NodeLabel → Label
given_label l = record { kind = l.kind; text = l.text.now; flags = l.flags; start = l.span.start; stop = l.span.end }

-- a gap waits
pub record AddsGap (old new : FlatBuilder) : Type 0 where
  pub nodes : new.nodes.items ≡ old.nodes.items
  pub parts : new.parts.items ≡ old.parts.items
  pub waiting : new.waiting.items ≡ old.waiting.items ++ None ∷ []

-- one more node with this label, whose parts stand from a place on in the list of all; it waits
pub record Adds (old new : FlatBuilder) (l : Label) (place size : ℕ) : Type 0 where
  pub added : FlatNode
  pub nodes : new.nodes.items ≡ old.nodes.items ++ added ∷ []
  pub parts : new.parts.items ≡ old.parts.items
  pub waiting : new.waiting.items ≡ old.waiting.items ++ Some (record { number = length old.nodes.items }) ∷ []
  pub label : node_label added ≡ l
  pub first : added.first ≡ place
  pub count : added.count ≡ size
  pub few : length old.nodes.items < most

-- one more node with this label, whose parts were those that waited from a place on; it waits in their place
pub record Finishes (old new : FlatBuilder) (l : Label) (kept : ℕ) : Type 0 where
  pub added : FlatNode
  pub nodes : new.nodes.items ≡ old.nodes.items ++ added ∷ []
  pub parts : new.parts.items ≡ old.parts.items ++ drop kept old.waiting.items
  pub waiting : new.waiting.items ≡ take kept old.waiting.items ++ Some (record { number = length old.nodes.items }) ∷ []
  pub label : node_label added ≡ l
  pub first : added.first ≡ length old.parts.items
  pub count : added.count + kept ≡ length old.waiting.items
  pub few_nodes : length old.nodes.items < most
  pub few_parts : length new.parts.items ≤ most
