use Rattle.std.proofs.Common.{◌&&◌, sym, ap, ◌∙◌}
use Rattle.tree.specs.NodeUses.{contains_optional}
use Rattle.tree.proofs.StandingNodes.{own_label, label_kind}
use Rattle.tree.proofs.ChainNodes.{placed}
use Rattle.tree.proofs.node_use.child_place.Goals as goal

pub returns-then-looks_below : goal.returns-then-looks_below
returns-then-looks_below c = λ first t s.
    let x = c.index-part.result.now in
    let kind = label_kind x t (own_label c.args.pool.now c.args.nodes.now.items first c.args.number t x s c.requires.there c.index-part.ensures) in
    placed c.args.around c.args.count c.args.index t x.kind c.contains_optional.result kind
    (c.contains_optional.ensures first t s ∙ ap (λ b. b && contains_optional t) (sym (sym c.looks_below.ensures ∙ c.if-looks_below.true)))

pub returns-else-looks_below : goal.returns-else-looks_below
returns-else-looks_below c = λ first t s.
    let x = c.index-part.result.now in
    let kind = label_kind x t (own_label c.args.pool.now c.args.nodes.now.items first c.args.number t x s c.requires.there c.index-part.ensures) in
    placed c.args.around c.args.count c.args.index t x.kind c.looks_below.result kind
    (c.if-looks_below.false ∙ ap (λ b. b && contains_optional t) (sym (sym c.looks_below.ensures ∙ c.if-looks_below.false)))
