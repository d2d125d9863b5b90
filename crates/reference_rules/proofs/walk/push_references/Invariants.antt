use Rattle.std.proofs.Common.{◌≡◌, ◌++◌, map, drop}
use Rattle.scopes.specs.Shown.{reference_shown}
use Rattle.rule_words.specs.Appends.{Grows}
use Rattle.reference_rules.specs.Found.{over_references}
use Rattle.reference_rules.proofs.walk.push_references.Given as goal

abbrev pub invariant-loop-reference : goal.invariant-loop-reference
invariant-loop-reference l = record {
  found : l.out.items ++ over_references l.pass.profile l.pass.rules.now l.scopes.scopes (map reference_shown (drop l.reference-index l.references)) ≡ l.fn.out.items ++ over_references l.pass.profile l.pass.rules.now l.scopes.scopes (map reference_shown l.references);
  kept : Grows l.fn.out.items l.out.items;
}
