use Rattle.std.proofs.Common.{◌≡◌, ◌++◌, drop}
use Rattle.tree.specs.Node.{node_tree}
use Rattle.rule_words.specs.Appends.{Grows}
use Rattle.value_rules.specs.Found.{each, of_node}
use Rattle.value_rules.proofs.walk.push_of_node.Given as goal

abbrev pub invariant-loop-rule : goal.invariant-loop-rule
invariant-loop-rule l = record {
  found : l.out.items ++ each (λ rule. of_node rule (node_tree l.node)) (drop l.rule-index l.rules) ≡ l.fn.out.items ++ each (λ rule. of_node rule (node_tree l.node)) l.rules;
  kept : Grows l.fn.out.items l.out.items;
}
