use Rattle.std.proofs.Common.{◌≡◌, drop}
use Rattle.flow_rules.specs.Fallthrough.{says_falls}
use Rattle.flow_rules.proofs.fallthrough.says_falls.Given as goal

abbrev pub invariant-loop-index : goal.invariant-loop-index
invariant-loop-index l = says_falls (drop l.index l.text) ≡ says_falls l.text
