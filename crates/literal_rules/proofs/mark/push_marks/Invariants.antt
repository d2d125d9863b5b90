use Rattle.std.proofs.Common.{◌≡◌, ◌+◌, ◌++◌, drop}
use Rattle.rule_words.specs.Appends.{Grows}
use Rattle.literal_rules.specs.Marks.{each_mark}
use Rattle.literal_rules.proofs.mark.push_marks.Given as goal

abbrev pub invariant-loop-index : goal.invariant-loop-index
invariant-loop-index l = record {
  found : l.out.items ++ each_mark l.rule l.state (l.start + l.index) (drop l.index l.text) ≡ l.fn.out.items ++ each_mark l.rule l.fn.from l.start l.text;
  kept : Grows l.fn.out.items l.out.items;
}
