use Rattle.std.proofs.Common.{◌≡◌, ◌++◌, drop}
use Rattle.scopes.specs.Shown.{all_shown}
use Rattle.rule_words.specs.Appends.{Grows}
use Rattle.reference_rules.specs.Found.{over_declarations}
use Rattle.reference_rules.proofs.walk.push_declarations.Given as goal

abbrev pub invariant-loop-binding : goal.invariant-loop-binding
invariant-loop-binding l = record {
  found : l.out.items ++ over_declarations l.pass.profile l.pass.rules.now l.standing (all_shown (drop l.binding-index l.bindings)) ≡ l.fn.out.items ++ over_declarations l.pass.profile l.pass.rules.now l.standing (all_shown l.bindings);
  kept : Grows l.fn.out.items l.out.items;
}
