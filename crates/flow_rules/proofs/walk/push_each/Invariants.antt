use Rattle.std.proofs.Common.{◌≡◌, ◌++◌, drop}
use Rattle.tree.specs.Node.{node_tree}
use Rattle.rule_words.specs.Appends.{Grows}
use Rattle.flow_rules.specs.Rows.{of_rules}
use Rattle.flow_rules.proofs.walk.push_each.Given as goal

abbrev pub invariant-loop-rule : goal.invariant-loop-rule
invariant-loop-rule l = record {
  found : l.out.items ++ of_rules l.walk.source.now (drop l.rule-index l.walk.rules.now) l.around l.flow (node_tree l.node) ≡ l.fn.out.items ++ of_rules l.walk.source.now l.walk.rules.now l.around l.flow (node_tree l.node);
  kept : Grows l.fn.out.items l.out.items;
}
