use Rattle.std.proofs.Common.{◌-◌, length}
use Rattle.unwrapping.proofs.choice.Basis.pass_pairs.Given as goal

abbrev pub decreases-loop-pair : goal.decreases-loop-pair
decreases-loop-pair l = length l.self.pairs.now - l.next
