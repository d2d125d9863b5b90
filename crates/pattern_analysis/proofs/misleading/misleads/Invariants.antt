use Rattle.std.proofs.Common.{◌-◌, length}
use Rattle.pattern_analysis.proofs.ReadSteps.{InClasses}
use Rattle.pattern_analysis.proofs.misleading.misleads.Given as goal

abbrev pub invariant-loop-first : goal.invariant-loop-first
invariant-loop-first l = InClasses l.is_unicode l.text l.at l.standing l.sight.before l.sight.last

abbrev pub decreases-loop-first : goal.decreases-loop-first
decreases-loop-first l = length l.initial.text - l.at
