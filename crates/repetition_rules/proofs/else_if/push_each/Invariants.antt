use Rattle.std.proofs.Common.{◌≡◌, ◌++◌, [], drop, take}
use Rattle.rule_words.specs.Appends.{Grows}
use Rattle.repetition_rules.specs.Chains.{Knows, moot_reports}
use Rattle.repetition_rules.proofs.else_if.push_each.Given as goal

abbrev pub invariant-loop-index : goal.invariant-loop-index
invariant-loop-index l = record {
  knows : Knows l.lasts (take l.index l.tests);
  found : l.out.items ++ moot_reports l.rule (take l.index l.tests) (drop l.index l.tests) ≡ l.fn.out.items ++ moot_reports l.rule [] l.tests;
  kept : Grows l.fn.out.items l.out.items;
}
