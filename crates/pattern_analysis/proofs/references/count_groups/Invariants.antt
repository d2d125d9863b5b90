use Rattle.std.proofs.Common.{◌-◌, length}
use Rattle.pattern_analysis.proofs.MarkSteps.{InMarks}
use Rattle.pattern_analysis.proofs.references.count_groups.Given as goal

abbrev pub invariant-loop-first : goal.invariant-loop-first
invariant-loop-first l = InMarks l.text l.at l.in_class l.count

abbrev pub decreases-loop-first : goal.decreases-loop-first
decreases-loop-first l = length l.initial.text - l.at
