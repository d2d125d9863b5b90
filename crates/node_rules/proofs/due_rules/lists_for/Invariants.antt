use Rattle.std.proofs.Common.{◌≡◌, ◌++◌, drop, map}
use Rattle.node_rules.specs.Due.{looking_at}
use Rattle.node_rules.proofs.due_rules.lists_for.Given as goal

abbrev pub invariant-loop-kind : goal.invariant-loop-kind
invariant-loop-kind l = map (λ list. list.items) l.lists.items ++ map (looking_at l.rules) (drop l.kind-index l.kinds) ≡ map (looking_at l.rules) l.kinds
