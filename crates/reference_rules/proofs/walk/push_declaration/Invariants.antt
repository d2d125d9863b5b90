use Rattle.std.proofs.Common.{◌≡◌, ◌++◌, drop}
use Rattle.scopes.specs.Shown.{shown}
use Rattle.rule_words.specs.Appends.{Grows}
use Rattle.reference_rules.specs.Found.{by_declaration, each}
use Rattle.reference_rules.proofs.walk.push_declaration.Given as goal

abbrev pub invariant-loop-rule : goal.invariant-loop-rule
invariant-loop-rule l = record {
  found : l.out.items ++ each (by_declaration l.pass.profile l.standing (shown l.binding)) (drop l.rule-index l.pass.rules.now) ≡ l.fn.out.items ++ each (by_declaration l.pass.profile l.standing (shown l.binding)) l.pass.rules.now;
  kept : Grows l.fn.out.items l.out.items;
}
