use Rattle.std.proofs.Common.{◌≡◌, ◌∙◌, ◌<◌, true, Some, sym, ap, rules}
use Rattle.tree.specs.Node.{node_tree}
use Rattle.tree.specs.Tree.{parts_of, part_at, node_total}
use Rattle.tree.proofs.PartWalk.{part_smaller}
use Rattle.language.specs.Expressions.{first_has_optional}
use Rattle.spelling_table.specs.Productions.{outline_of}
use Rattle.spellings.specs.Wherever.{chain_above}
use Rattle.cost_table.proofs.NodeRowNumbers.{chained_at}
use Rattle.unwrapping.proofs.choice.+choosing.Goals as goal

pub choose_parts-choose_node-requires : goal.choose_parts-choose_node-requires
choose_parts-choose_node-requires t c =
    let n = node_tree c.args.node in
    let u = node_tree c.in-Some.part in
    let here : Some u ≡ part_at (parts_of n) c.loop-index.index = c.in-Some.ensures ∙ ap (λ qs. part_at qs c.loop-index.index) c.parts-parts.ensures in
    let smaller : node_total u < node_total n = part_smaller n u c.loop-index.index here in
    let above : c.holds_chain-is_chain.result ≡ true → first_has_optional (parts_of n) ≡ true = λ h. c.requires (ap (λ k. chain_above c.args.own k (outline_of c.args.production).front) (sym c.kind.ensures) ∙ sym c.holds_chain-is_chain.ensures ∙ h) in
    (search rules, chained_at n u c.loop-index.index c.holds_chain-is_chain.result c.leads_chain-in_chain.result above here c.leads_chain-in_chain.ensures)
