use Rattle.std.proofs.Common.{◌-◌, ◌+◌, ◌≤◌, length, reverse, sum}
use Rattle.regular_expressions.specs.Scanned.{nested_as}
use Rattle.regular_expressions.proofs.PatternSteps.{InPattern}
use Rattle.regular_expressions.proofs.pattern.read.Given as goal

abbrev pub invariant-loop-first : goal.invariant-loop-first
invariant-loop-first l = record {
  few : l.nested.groups + sum l.around.items ≤ l.at;
  read : InPattern l.is_unicode l.text l.at (nested_as l.nested (reverse l.around.items)) l.has_references;
}

abbrev pub decreases-loop-first : goal.decreases-loop-first
decreases-loop-first l = length l.initial.text - l.at
