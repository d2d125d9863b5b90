use Rattle.std.proofs.Common.{◌≡◌, ℕ, ◌∙◌}
use Rattle.tree.specs.Tree.{Parts, node, none, plain, part, push, join, all_but, last_parts}
use Rattle.tree.specs.Labels.{Label}
use Rattle.tree.proofs.Shapes.{join-push}
use Rattle.tree.proofs.BuiltNodes.{still_open, shown_before}
use Rattle.tree.proofs.TreesTooLarge.{led_done, led_refused, led_still}
use Rattle.tree.proofs.tree_builder.TreeBuilder.leaf_before.Goals as goal

pub push_before-requires : goal.push_before-requires
push_before-requires c = (c.self.invariant.nodes (still_open c.self.inside.refused c.if-is_none.ensures)).sound

before : (n : ℕ) (w : Parts) (l : Label) (shown : Parts) → shown ≡ join (push (all_but n w) (node l.kind l.text l.flags l.start l.stop none)) (last_parts n w)
    → shown ≡ join (all_but n w) (part (node l.kind l.text l.flags l.start l.stop none) (last_parts n w))
before n w l shown h = h ∙ join-push (all_but n w) (last_parts n w) (node l.kind l.text l.flags l.start l.stop none)

pub invariant_of-self : goal.invariant_of-self
invariant_of-self c =
    let l : Label = record { kind = c.args.kind; text = c.args.text.now; flags = plain; start = c.args.span.start; stop = c.args.span.end } in
    led_refused c.self.inside.building c.push_before.new.building c.self.inside.refused c.self.inside.shown.parts _ l c.args.count (before c.args.count c.self.inside.shown.parts l _ c.led-self-inside.ensures) c.in-Err.error (still_open c.self.inside.refused c.if-is_none.ensures) c.self.invariant c.in-Err.ensures.refused

pub invariant_of-self-in_default : goal.invariant_of-self-in_default
invariant_of-self-in_default c =
    let l : Label = record { kind = c.args.kind; text = c.args.text.now; flags = plain; start = c.args.span.start; stop = c.args.span.end } in
    led_done c.self.inside.building c.push_before.new.building c.self.inside.refused c.self.inside.shown.parts _ l c.args.count (before c.args.count c.self.inside.shown.parts l _ c.led-self-inside.ensures) (still_open c.self.inside.refused c.if-is_none.ensures) (c.in_default.ensures.pushed c.self.inside.shown.parts (c.self.invariant.nodes (still_open c.self.inside.refused c.if-is_none.ensures)))

pub invariant_of-self-else-is_none : goal.invariant_of-self-else-is_none
invariant_of-self-else-is_none c =
    let l : Label = record { kind = c.args.kind; text = c.args.text.now; flags = plain; start = c.args.span.start; stop = c.args.span.end } in
    led_still c.self.inside.building c.self.inside.building c.self.inside.refused c.self.inside.shown.parts _ l c.args.count (before c.args.count c.self.inside.shown.parts l _ c.led-self-inside.ensures) c.if-is_none.ensures c.self.invariant

pub returns-in-Err : goal.returns-in-Err
returns-in-Err c = λ base own h n.
    c.led-self-inside.ensures ∙ shown_before c.args.kind c.args.text.now plain c.args.span.start c.args.span.end c.args.count c.self.inside.shown.parts c.args.self.now base own c.self.view_is h n

pub returns-in_default : goal.returns-in_default
returns-in_default c = λ base own h n.
    c.led-self-inside.ensures ∙ shown_before c.args.kind c.args.text.now plain c.args.span.start c.args.span.end c.args.count c.self.inside.shown.parts c.args.self.now base own c.self.view_is h n

pub returns-else-is_none : goal.returns-else-is_none
returns-else-is_none c = λ base own h n.
    c.led-self-inside.ensures ∙ shown_before c.args.kind c.args.text.now plain c.args.span.start c.args.span.end c.args.count c.self.inside.shown.parts c.args.self.now base own c.self.view_is h n
