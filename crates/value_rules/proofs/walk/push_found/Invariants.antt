use Rattle.std.proofs.Common.{◌≡◌, ◌++◌, drop}
use Rattle.tree.specs.Flat.{post_order}
use Rattle.rule_words.specs.Appends.{Grows}
use Rattle.value_rules.specs.Found.{found_by_rules, over_nodes}
use Rattle.value_rules.proofs.walk.push_found.Given as goal

abbrev pub invariant-loop-number : goal.invariant-loop-number
invariant-loop-number l = record {
  found : l.out.items ++ over_nodes l.rules (drop l.number (post_order l.program)) ≡ l.fn.out.items ++ found_by_rules l.rules l.program;
  kept : Grows l.fn.out.items l.out.items;
}
