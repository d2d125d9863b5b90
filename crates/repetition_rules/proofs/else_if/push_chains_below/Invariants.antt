use Rattle.std.proofs.Common.{◌≡◌, ◌++◌}
use Rattle.tree.specs.Node.{node_tree}
use Rattle.tree.specs.Tree.{parts_of, parts_drop}
use Rattle.name_tables.specs.BoundNames.{each_part}
use Rattle.rule_words.specs.Appends.{Grows}
use Rattle.repetition_rules.specs.Chains.{chain_reports}
use Rattle.repetition_rules.proofs.else_if.push_chains_below.Given as goal

abbrev pub invariant-loop-index : goal.invariant-loop-index
invariant-loop-index l =
    let ps = parts_of (node_tree l.node) in
    record {
      found : l.out.items ++ each_part (chain_reports l.rule) (parts_drop l.index ps) ≡ l.fn.out.items ++ each_part (chain_reports l.rule) ps;
      kept : Grows l.fn.out.items l.out.items;
    }
