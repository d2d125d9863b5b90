use Rattle.std.proofs.Common.{option_map}
use Rattle.tree.specs.Node.{node_tree}
use Rattle.tree.proofs.PartWalk.{optional_total}
use Rattle.spellings.proofs.modules.+begins_with_brace.Given as goal

abbrev pub decreases-begins_with_brace : goal.decreases-begins_with_brace
decreases-begins_with_brace l = optional_total (option_map node_tree l.part)
