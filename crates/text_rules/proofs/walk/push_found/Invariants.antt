use Rattle.std.proofs.Common.{◌≡◌, ◌++◌, drop}
use Rattle.rule_words.specs.Appends.{Grows}
use Rattle.text_rules.specs.Found.{each, found_by_rule}
use Rattle.text_rules.proofs.walk.push_found.Given as goal

abbrev pub invariant-loop-rule : goal.invariant-loop-rule
invariant-loop-rule l = record {
  found : l.out.items ++ each (λ rule. found_by_rule l.source rule l.program) (drop l.rule-index l.rules) ≡ l.fn.out.items ++ each (λ rule. found_by_rule l.source rule l.program) l.rules;
  kept : Grows l.fn.out.items l.out.items;
}
