use Rattle.std.proofs.Common.{◌≡◌, ◌++◌}
use Rattle.tree.specs.Node.{node_tree}
use Rattle.tree.specs.Tree.{parts_of, parts_drop}
use Rattle.name_tables.specs.BoundNames.{each_part}
use Rattle.rule_words.specs.Appends.{Grows}
use Rattle.private_members.specs.Found.{of_member}
use Rattle.private_members.specs.Sets.{is_known}
use Rattle.private_members.proofs.members.push_unused.Given as goal

abbrev pub invariant-loop-index : goal.invariant-loop-index
invariant-loop-index l =
    let ps = parts_of (node_tree l.body) in
    record {
      found : l.out.items ++ each_part (of_member (is_known l.names)) (parts_drop l.index ps) ≡ l.fn.out.items ++ each_part (of_member (is_known l.names)) ps;
      kept : Grows l.fn.out.items l.out.items;
    }
