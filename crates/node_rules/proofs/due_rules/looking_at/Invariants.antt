use Rattle.std.proofs.Common.{◌≡◌, ◌++◌, drop}
use Rattle.node_rules.specs.Due.{looking_at}
use Rattle.node_rules.proofs.due_rules.looking_at.Given as goal

abbrev pub invariant-loop-rule : goal.invariant-loop-rule
invariant-loop-rule l = l.list.items ++ looking_at (drop l.rule-index l.rules) l.kind ≡ looking_at l.rules l.kind
