use Rattle.std.proofs.Common.{◌≡◌, ◌++◌, drop}
use Rattle.tree.specs.Flat.{post_order}
use Rattle.rule_words.specs.Appends.{Grows}
use Rattle.text_rules.specs.Found.{each, of_node}
use Rattle.text_rules.proofs.walk.push_of_nodes.Given as goal

abbrev pub invariant-loop-number : goal.invariant-loop-number
invariant-loop-number l = record {
  found : l.out.items ++ each (of_node l.look.source.now l.look.rule) (drop l.number (post_order l.program)) ≡ l.fn.out.items ++ each (of_node l.look.source.now l.look.rule) (post_order l.program);
  kept : Grows l.fn.out.items l.out.items;
}
