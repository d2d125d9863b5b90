use Rattle.std.proofs.Common.{◌<◌, sym, ap, ◌∙◌, arith}
use Rattle.tree.specs.declared.kind.Flags.{Flags}
use Rattle.tree.proofs.StandingNodes.{node_links}
use Rattle.tree.proofs.ChainNodes.{chain_false, chain_true, chain_below, chain_gap, first_before}
use Rattle.tree.proofs.node_use.+contains_optional.Goals as goal

pub returns-then-not-is_chain_part : goal.returns-then-not-is_chain_part
returns-then-not-is_chain_part t c =
    chain_false c.args.pool.now c.args.nodes.now.items c.args.number c.index-node.result.now c.requires.there c.index-node.ensures (sym c.is_chain_part.ensures ∙ c.if-not-is_chain_part.true)

pub returns-then-flags : goal.returns-then-flags
returns-then-flags t c =
    chain_true c.args.pool.now c.args.nodes.now.items c.args.number c.index-node.result.now c.requires.there c.index-node.ensures (sym c.is_chain_part.ensures ∙ c.if-not-is_chain_part.false) (ap (λ (g : Flags). g.optional) (sym c.flags-flags.ensures) ∙ c.if-flags.true)

pub first_part-requires : goal.first_part-requires
first_part-requires t c = (node_links c.args.pool.now c.args.nodes.now.items c.args.number c.index-node.result.now c.requires.linked c.requires.there c.index-node.ensures).0

pub contains_optional-requires : goal.contains_optional-requires
contains_optional-requires t c =
    let low : c.in-Some.part.number < c.args.number =
    first_before c.args.pool.now c.args.nodes.now.items c.args.number c.index-node.result.now c.requires.there c.index-node.ensures c.first_part.result c.in-Some.part c.requires.linked c.first_part.ensures c.in-Some.is in
    (omega (arith, low, c.decreases), (omega (arith, low, c.requires.there), c.requires.linked))

pub returns-in-Some : goal.returns-in-Some
returns-in-Some t c =
    chain_below c.args.pool.now c.args.nodes.now.items c.args.number c.index-node.result.now c.requires.there c.index-node.ensures c.first_part.result c.in-Some.part c.contains_optional.result
    (sym c.is_chain_part.ensures ∙ c.if-not-is_chain_part.false) (ap (λ (g : Flags). g.optional) (sym c.flags-flags.ensures) ∙ c.if-flags.false) c.first_part.ensures c.in-Some.is c.contains_optional.ensures

pub returns-in-None : goal.returns-in-None
returns-in-None t c =
    chain_gap c.args.pool.now c.args.nodes.now.items c.args.number c.index-node.result.now c.requires.there c.index-node.ensures c.first_part.result
    (sym c.is_chain_part.ensures ∙ c.if-not-is_chain_part.false) (ap (λ (g : Flags). g.optional) (sym c.flags-flags.ensures) ∙ c.if-flags.false) c.first_part.ensures c.in-None.is
