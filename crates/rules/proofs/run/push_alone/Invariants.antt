use Rattle.std.proofs.Common.{◌≡◌, ◌++◌, drop}
use Rattle.rules.specs.Groups.{found_alone}
use Rattle.rules.specs.RuleViews.{seen}
use Rattle.rules.proofs.run.push_alone.Given as goal

abbrev pub invariant-loop-name : goal.invariant-loop-name
invariant-loop-name l = l.out.items ++ found_alone (drop l.name-index l.names) (seen l.view) ≡ l.fn.out.items ++ found_alone l.names (seen l.view)
