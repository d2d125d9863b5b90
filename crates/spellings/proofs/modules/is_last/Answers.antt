use Rattle.std.proofs.Common.{◌∙◌, ◌-◌, ◌<◌, nat_eq, ap, arith}
use Rattle.tree.specs.Node.{node_tree}
use Rattle.tree.specs.Tree.{parts_of, part_count}
use Rattle.spellings.proofs.Cursors.{some-within}
use Rattle.spellings.proofs.PartsAfter.{last-behind}
use Rattle.spellings.proofs.ModuleParts.{last_there, last_missing, counts_one}
use Rattle.spellings.proofs.modules.is_last.Goals as goal

pub returns-in_default : goal.returns-in_default
returns-in_default c = last_missing (parts_of (node_tree c.args.node)) c.args.index c.in_default.ensures

pub overflow_sub-result : goal.overflow_sub-result
overflow_sub-result c = omega (arith, c.part_count.ensures, some-within (parts_of (node_tree c.args.node)) c.args.index (node_tree c.in-Some.field-0) c.in-Some.ensures)

pub returns : goal.returns
returns c =
    let ps = parts_of (node_tree c.args.node) in
    let i = c.args.index in
    let u = node_tree c.in-Some.field-0 in
    let within : i < part_count ps = some-within ps i u c.in-Some.ensures in
    last_there ps i u _ c.in-Some.ensures (ap (λ n. nat_eq (n - i) 1) c.part_count.ensures ∙ counts_one (part_count ps) i within ∙ last-behind ps i within)
