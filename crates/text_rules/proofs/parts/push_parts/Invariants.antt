use Rattle.std.proofs.Common.{◌≡◌, ◌++◌}
use Rattle.tree.specs.Node.{node_tree}
use Rattle.tree.specs.Tree.{parts_drop, parts_of, start_of}
use Rattle.rule_words.specs.Appends.{Grows}
use Rattle.text_rules.specs.Found.{of_parts}
use Rattle.text_rules.proofs.parts.push_parts.Given as goal

abbrev pub invariant-loop-index : goal.invariant-loop-index
invariant-loop-index l =
    let t = node_tree l.node in
    record {
      found : l.out.items ++ of_parts l.look.source.now l.look.rule t l.index l.from (parts_drop l.index (parts_of t)) ≡ l.fn.out.items ++ of_parts l.look.source.now l.look.rule t 0 (start_of t) (parts_of t);
      kept : Grows l.fn.out.items l.out.items;
    }
