use Rattle.std.proofs.Common.{option_map}
use Rattle.tree.specs.Node.{node_tree}
use Rattle.tree.proofs.PartWalk.{optional_total}
use Rattle.grammar.proofs.chain.+has_optional.Given as goal

abbrev pub decreases-has_optional : goal.decreases-has_optional
decreases-has_optional l = optional_total (option_map node_tree l.part)
