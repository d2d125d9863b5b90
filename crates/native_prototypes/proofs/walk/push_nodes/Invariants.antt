use Rattle.std.proofs.Common.{◌≡◌, ◌++◌, drop}
use Rattle.tree.specs.Flat.{post_order}
use Rattle.name_tables.specs.Sets.{contains}
use Rattle.rule_words.specs.Appends.{Grows}
use Rattle.native_prototypes.specs.Found.{over_nodes}
use Rattle.native_prototypes.proofs.walk.push_nodes.Given as goal

abbrev pub invariant-loop-number : goal.invariant-loop-number
invariant-loop-number l = record {
  found : l.out.items ++ over_nodes l.is_2022 (contains l.bound) (drop l.number (post_order l.program)) ≡ l.fn.out.items ++ over_nodes l.is_2022 (contains l.bound) (post_order l.program);
  kept : Grows l.fn.out.items l.out.items;
}
