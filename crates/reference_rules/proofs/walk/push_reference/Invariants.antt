use Rattle.std.proofs.Common.{◌≡◌, ◌++◌, drop, option_map}
use Rattle.scopes.specs.Shown.{reference_shown, shown}
use Rattle.rule_words.specs.Appends.{Grows}
use Rattle.reference_rules.specs.Found.{by_reference, each}
use Rattle.reference_rules.proofs.walk.push_reference.Given as goal

abbrev pub invariant-loop-rule : goal.invariant-loop-rule
invariant-loop-rule l = record {
  found : l.out.items ++ each (by_reference l.pass.profile (reference_shown l.reference) (option_map shown l.binding)) (drop l.rule-index l.pass.rules.now) ≡ l.fn.out.items ++ each (by_reference l.pass.profile (reference_shown l.reference) (option_map shown l.binding)) l.pass.rules.now;
  kept : Grows l.fn.out.items l.out.items;
}
