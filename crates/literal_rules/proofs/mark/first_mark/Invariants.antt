use Rattle.std.proofs.Common.{◌≡◌, drop}
use Rattle.literal_rules.specs.Marks.{first_mark}
use Rattle.literal_rules.proofs.mark.first_mark.Given as goal

abbrev pub invariant-loop-index : goal.invariant-loop-index
invariant-loop-index l = first_mark l.rule l.state l.index (drop l.index l.text) ≡ first_mark l.rule l.fn.from 0 l.text
