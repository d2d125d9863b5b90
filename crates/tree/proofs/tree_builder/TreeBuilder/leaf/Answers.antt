use Rattle.std.proofs.Common.{length, ◌∙◌, arith}
use Rattle.tree.specs.Tree.{plain}
use Rattle.tree.specs.Labels.{Label}
use Rattle.tree.proofs.BuiltNodes.{still_open, shown_leaf}
use Rattle.tree.proofs.TreesTooLarge.{node_done, node_refused, node_still}
use Rattle.tree.proofs.tree_builder.TreeBuilder.leaf.Goals as goal

pub invariant_of-self : goal.invariant_of-self
invariant_of-self c =
    let l : Label = record { kind = c.args.kind; text = c.args.text.now; flags = plain; start = c.args.span.start; stop = c.args.span.end } in
    node_refused c.self.inside.building c.push_leaf.new.building c.self.inside.refused c.self.inside.shown.parts _ l 0 c.finished-self-inside.ensures 0 c.in-Err.error (still_open c.self.inside.refused c.if-is_none.ensures) c.self.invariant (omega arith) c.in-Err.ensures.refused

pub invariant_of-self-in_default : goal.invariant_of-self-in_default
invariant_of-self-in_default c =
    let l : Label = record { kind = c.args.kind; text = c.args.text.now; flags = plain; start = c.args.span.start; stop = c.args.span.end } in
    node_done c.self.inside.building c.push_leaf.new.building c.self.inside.refused c.self.inside.shown.parts _ l 0 c.finished-self-inside.ensures (length c.self.inside.building.waiting.items) (still_open c.self.inside.refused c.if-is_none.ensures) c.self.invariant c.in_default.ensures.pushed (omega arith)

pub invariant_of-self-else-is_none : goal.invariant_of-self-else-is_none
invariant_of-self-else-is_none c =
    let l : Label = record { kind = c.args.kind; text = c.args.text.now; flags = plain; start = c.args.span.start; stop = c.args.span.end } in
    node_still c.self.inside.building c.self.inside.building c.self.inside.refused c.self.inside.shown.parts _ l 0 c.finished-self-inside.ensures c.if-is_none.ensures c.self.invariant

pub returns-in-Err : goal.returns-in-Err
returns-in-Err c = c.finished-self-inside.ensures ∙ shown_leaf c.args.kind c.args.text.now plain c.args.span.start c.args.span.end c.self.inside.shown.parts c.args.self.now c.self.view_is

pub returns-in_default : goal.returns-in_default
returns-in_default c = c.finished-self-inside.ensures ∙ shown_leaf c.args.kind c.args.text.now plain c.args.span.start c.args.span.end c.self.inside.shown.parts c.args.self.now c.self.view_is

pub returns-else-is_none : goal.returns-else-is_none
returns-else-is_none c =
    c.finished-self-inside.ensures ∙ shown_leaf c.args.kind c.args.text.now plain c.args.span.start c.args.span.end c.self.inside.shown.parts c.args.self.now c.self.view_is
