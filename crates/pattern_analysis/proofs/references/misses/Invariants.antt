use Rattle.std.proofs.Common.{◌-◌, length}
use Rattle.pattern_analysis.proofs.ReferenceSteps.{InReferences}
use Rattle.pattern_analysis.proofs.references.misses.Given as goal

abbrev pub invariant-loop-first : goal.invariant-loop-first
invariant-loop-first l = InReferences l.groups l.text l.at l.in_class l.reached l.around.items l.kept.items

abbrev pub decreases-loop-first : goal.decreases-loop-first
decreases-loop-first l = length l.initial.text - l.at
