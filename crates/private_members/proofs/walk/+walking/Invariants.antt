use Rattle.std.proofs.Common.{◌≡◌, ◌+◌, ◌*◌, ◌++◌, option_map}
use Rattle.tree.specs.Node.{node_tree}
use Rattle.tree.specs.Tree.{kind_of, node_total, parts_of, text_of}
use Rattle.tree.proofs.PartWalk.{optional_total, parts_drop}
use Rattle.rule_words.specs.Appends.{Grows}
use Rattle.private_members.specs.Found.{found_in}
use Rattle.private_members.specs.Uses.{uses_in}
use Rattle.private_members.proofs.walk.+walking.Given as goal

abbrev pub decreases-push_node : goal.decreases-push_node
decreases-push_node l = 3 * node_total (node_tree l.node) + 1

abbrev pub decreases-push_parts : goal.decreases-push_parts
decreases-push_parts l = 3 * node_total (node_tree l.node)

abbrev pub decreases-push_part : goal.decreases-push_part
decreases-push_part l = 3 * optional_total (option_map node_tree l.part) + 2

abbrev pub invariant-push_parts-loop-index : goal.invariant-push_parts-loop-index
invariant-push_parts-loop-index l =
    let t = node_tree l.node in
    record {
      uses : l.uses.items ++ uses_in l.standing (kind_of t) (text_of t) l.index (parts_drop l.index (parts_of t)) ≡ l.fn.uses.items ++ uses_in l.standing (kind_of t) (text_of t) 0 (parts_of t);
      found : l.out.items ++ found_in (parts_drop l.index (parts_of t)) ≡ l.fn.out.items ++ found_in (parts_of t);
      kept : Grows l.fn.out.items l.out.items;
    }
