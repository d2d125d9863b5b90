use Rattle.std.proofs.Common.{◌≡◌, ◌∙◌, ◌+◌, ◌-◌, sym, ap, true, arith}
use Rattle.tree.specs.Node.{node_tree}
use Rattle.tree.specs.Tree.{kind_of, parts_of, part_count}
use Rattle.language.specs.Edges.{trails}
use Rattle.spellings.proofs.LastParts.{ends_last, ends_gap}
use Rattle.spellings.proofs.dangling.+ends_in_if.Goals as goal

pub returns-in-Some : goal.returns-in-Some
returns-in-Some t c =
    let n = node_tree c.args.node in
    let trailing : trails (kind_of n) ≡ true = sym (c.trails.ensures ∙ ap trails c.kind.ensures) ∙ c.if-not-trails.false in
    let count : part_count (parts_of n) ≡ (c.part_count-count.result - 1) + 1 = omega (arith, c.part_count-count.ensures, c.if-count-eq0.false) in
    c.ends_in_if.ensures ∙ ends_last n (node_tree c.in-Some.last) (c.part_count-count.result - 1) trailing count c.in-Some.ensures

pub returns-in-None : goal.returns-in-None
returns-in-None t c =
    let n = node_tree c.args.node in
    let trailing : trails (kind_of n) ≡ true = sym (c.trails.ensures ∙ ap trails c.kind.ensures) ∙ c.if-not-trails.false in
    let count : part_count (parts_of n) ≡ (c.part_count-count.result - 1) + 1 = omega (arith, c.part_count-count.ensures, c.if-count-eq0.false) in
    ends_gap n (c.part_count-count.result - 1) trailing count c.in-None.ensures
