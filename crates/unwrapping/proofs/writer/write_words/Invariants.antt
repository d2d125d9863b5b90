use Rattle.std.proofs.Common.{◌-◌, length}
use Rattle.unwrapping.proofs.writer.write_words.Given as goal

abbrev pub decreases-loop-at : goal.decreases-loop-at
decreases-loop-at l = length l.words - l.at
