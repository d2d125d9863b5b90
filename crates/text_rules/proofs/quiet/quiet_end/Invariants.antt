use Rattle.std.proofs.Common.{◌-◌, length}
use Rattle.tokens.specs.Scanned.{AllPass}
use Rattle.text_rules.specs.Quiet.{is_quiet}
use Rattle.text_rules.proofs.quiet.quiet_end.Given as goal

abbrev pub invariant-loop-end : goal.invariant-loop-end
invariant-loop-end l = AllPass is_quiet l.text l.at l.end

abbrev pub decreases-loop-end : goal.decreases-loop-end
decreases-loop-end l = length l.bytes - l.end
