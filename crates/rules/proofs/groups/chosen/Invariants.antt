use Rattle.std.proofs.Common.{◌≡◌, ◌++◌, drop}
use Rattle.rules.specs.Groups.{chosen}
use Rattle.rules.proofs.groups.chosen.Given as goal

abbrev pub invariant-loop-name : goal.invariant-loop-name
invariant-loop-name g l = l.rules.items ++ chosen (λ name. g.G.Grouped.named name) (drop l.name-index l.names) l.settings ≡ chosen (λ name. g.G.Grouped.named name) l.names l.settings
