use Rattle.std.specs.Prelude.{length}
use Rattle.flow_rules.proofs.fallthrough.+begins.Given as goal

abbrev pub decreases-begins : goal.decreases-begins
decreases-begins l = length l.word.now
