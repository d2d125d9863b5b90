use Rattle.std.proofs.Common.{◌≡◌, ◌++◌}
use Rattle.tree.specs.Node.{node_tree}
use Rattle.tree.specs.Tree.{parts_of, parts_drop}
use Rattle.name_tables.specs.BoundNames.{each_part}
use Rattle.rule_words.specs.Appends.{Grows}
use Rattle.literal_rules.specs.Found.{of_element}
use Rattle.literal_rules.proofs.walk.push_of_elements.Given as goal

abbrev pub invariant-loop-index : goal.invariant-loop-index
invariant-loop-index l = record {
  found : l.out.items ++ each_part (of_element l.rule) (parts_drop l.index (parts_of (node_tree l.template))) ≡ l.fn.out.items ++ each_part (of_element l.rule) (parts_of (node_tree l.template));
  kept : Grows l.fn.out.items l.out.items;
}
