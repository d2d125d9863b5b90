use Rattle.tree.specs.Node.{node_tree}
use Rattle.tree.specs.Tree.{parts_of}
use Rattle.spellings.proofs.LastParts.{Counted}
use Rattle.spellings.proofs.dangling.has_two_defaults.Given as goal

abbrev pub invariant-loop-index : goal.invariant-loop-index
invariant-loop-index l = Counted (parts_of (node_tree l.node)) l.index l.found
