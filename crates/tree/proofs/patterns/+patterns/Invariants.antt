use Rattle.std.proofs.Common.{◌+◌, ◌*◌}
use Rattle.tree.specs.Repatterned.{KeepsParts}
use Rattle.tree.proofs.StandingNodes.{above}
use Rattle.tree.proofs.PatternNodes.{MadeSoFar}
use Rattle.tree.proofs.patterns.+patterns.Given as goal

abbrev pub decreases-make_pattern : goal.decreases-make_pattern
decreases-make_pattern l = 2 * l.number + 1

abbrev pub decreases-make_patterns : goal.decreases-make_patterns
decreases-make_patterns l = 2 * above l.run.now

-- the parts so far are patterns
abbrev pub invariant-make_patterns-loop-index : goal.invariant-make_patterns-loop-index
invariant-make_patterns-loop-index l = record {
  shape : KeepsParts l.fn.nodes.items l.nodes.items;
  made : MadeSoFar l.pool l.fn.nodes.items l.nodes.items l.run l.from l.index;
}
