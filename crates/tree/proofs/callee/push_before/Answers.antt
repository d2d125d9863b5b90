use Rattle.std.proofs.Common.{◌≡◌, ◌-◌, ◌≤◌, ◌++◌, ◌∷◌, List, length, map, take, drop, sym, ap, ◌∙◌, subst, arith, Option}
use Rattle.tree.specs.declared.flat_node.NodeNumber.{NodeNumber}
use Rattle.tree.specs.declared.flat_node.FlatNode.{FlatNode}
use Rattle.tree.specs.Flat.{AreBefore}
use Rattle.tree.specs.Building.{AreInOrder, given_label, most}
use Rattle.tree.specs.Moved.{moved_up}
use Rattle.tree.proofs.FlatTrees.{Pool, AreBefore-more, AreBefore-take}
use Rattle.tree.proofs.MovedNodes.{all_before, whole_items, cut_moved, put_before}
use Rattle.tree.proofs.callee.push_before.Goals as goal

pub move_up-requires-clause-before : goal.move_up-requires-clause-before
move_up-requires-clause-before c =
    let a = c.args.building.now in
    let n = length a.nodes.items in
    AreBefore-more n most c.deref_mut.result.now (omega (arith, c.requires.few_nodes)) (subst (λ (os : Pool). AreBefore n os) (sym c.deref_mut.ensures.value) (all_before a c.requires))

pub move_up-requires-clause-inside : goal.move_up-requires-clause-inside
move_up-requires-clause-inside c = omega (arith, c.parts_before-first.ensures.within, ap length c.deref-3.ensures.value, ap length c.deref_mut.ensures.value)

pub move_up-requires-2-clause-before : goal.move_up-requires-2-clause-before
move_up-requires-2-clause-before c =
    let a = c.args.building.now in
    let n = length a.nodes.items in
    AreBefore-more n most c.deref_mut-2.result.now (omega (arith, c.requires.few_nodes)) (subst (λ (os : Pool). AreBefore n os) (sym c.deref_mut-2.ensures.value) c.requires.waiting)

pub move_up-requires-2-clause-inside : goal.move_up-requires-2-clause-inside
move_up-requires-2-clause-inside c = omega (arith, c.saturating_sub-kept.ensures, c.len.ensures, c.args.building.now.waiting.ok.0, ap length c.deref_mut-2.ensures.value)

pub insert-requires : goal.insert-requires
insert-requires c =
    let a = c.args.building.now in
    let n = length a.nodes.items in
    omega (arith, c.node_count-number.ensures.within n (AreBefore-take n c.saturating_sub-kept.result c.deref.result.now (subst (λ (os : Pool). AreBefore n os) (sym c.deref.ensures.value) c.requires.waiting)), a.nodes.ok.0)

pub overflow_cast-own : goal.overflow_cast-own
overflow_cast-own c =
    let a = c.args.building.now in
    let n = length a.nodes.items in
    omega (arith, c.requires.few_nodes, c.node_count-number.ensures.within n (AreBefore-take n c.saturating_sub-kept.result c.deref.result.now (subst (λ (os : Pool). AreBefore n os) (sym c.deref.ensures.value) c.requires.waiting)))

pub of-requires : goal.of-requires
of-requires c =
    let a = c.args.building.now in
    let n = length a.nodes.items in
    omega (arith, c.requires.few_nodes, c.node_count-number.ensures.within n (AreBefore-take n c.saturating_sub-kept.result c.deref.result.now (subst (λ (os : Pool). AreBefore n os) (sym c.deref.ensures.value) c.requires.waiting)))

pub returns-clause-pushed : goal.returns-clause-pushed
returns-clause-pushed c = λ w h.
    let a = c.args.building.now in
    let ws = a.waiting.items in
    let ps = a.parts.items in
    let n = length a.nodes.items in
    let kept = c.saturating_sub-kept.result in
    let number = c.node_count-number.result in
    let first = c.parts_before-first.result in
    let low : number ≤ n = c.node_count-number.ensures.within n (AreBefore-take n kept c.deref.result.now (subst (λ (os : Pool). AreBefore n os) (sym c.deref.ensures.value) c.requires.waiting)) in
    let fits : first ≤ length ps = omega (arith, c.parts_before-first.ensures.within, ap length c.deref-3.ensures.value) in
    let front : AreInOrder first 0 (take number a.nodes.items) = subst (λ (es : List FlatNode). AreInOrder first 0 (take number es)) c.deref-2.ensures.value c.parts_before-first.ensures.front in
    let behind : AreInOrder (length ps) first (drop number a.nodes.items) =
    subst (λ (os : Pool). AreInOrder (length os) first (drop number a.nodes.items)) c.deref-3.ensures.value
    (subst (λ (es : List FlatNode). AreInOrder (length c.deref-3.result.now) first (drop number es)) c.deref-2.ensures.value c.parts_before-first.ensures.behind) in
    let up = c.move_up.new.parts in
    let parts : take a.parts.len (up ++ drop (length up) ps) ≡ take first ps ++ map moved_up (drop first ps) =
    whole_items a.parts.len up ps (omega (arith, c.move_up.auto.parts, ap length c.deref_mut.ensures.value, a.parts.ok.0))
    ∙ c.move_up.ensures ∙ ap (λ (os : Pool). take first os ++ map moved_up (drop first os)) c.deref_mut.ensures.value in
    let waited = c.move_up-2.new.parts in
    let all : take a.waiting.len (waited ++ drop (length waited) ws) ≡ take kept ws ++ map moved_up (drop kept ws) =
    whole_items a.waiting.len waited ws (omega (arith, c.move_up-2.auto.parts, ap length c.deref_mut-2.ensures.value, a.waiting.ok.0))
    ∙ c.move_up-2.ensures ∙ ap (λ (os : Pool). take kept os ++ map moved_up (drop kept os)) c.deref_mut-2.ensures.value in
    let at : kept ≡ length ws - c.args.count = omega (arith, c.saturating_sub-kept.ensures, c.len.ensures, a.waiting.ok.0) in
    let split = cut_moved kept ws (take a.waiting.len (waited ++ drop (length waited) ws)) (omega (arith, at)) all in
    let own = c.of.result in
    let waiting : c.insert-2.new.self.items ≡ take kept ws ++ (own ∷ map moved_up (drop kept ws)) =
    c.in_ok-insert.ensures.items
    ∙ ap (λ (os : Pool). os ++ (own ∷ drop kept (take a.waiting.len (waited ++ drop (length waited) ws)))) split.0
    ∙ ap (λ (os : Pool). take kept ws ++ (own ∷ os)) split.1 in
    put_before a _ (given_label c.args.label) c.args.count kept number first w c.flat_node-node.result h at
    (λ u g. c.node_count-number.ensures.all u (ap (take kept) c.deref.ensures.value ∙ g))
    low fits front behind c.in_default.ensures.items parts
    (waiting ∙ ap (λ (o : Option NodeNumber). take kept ws ++ (o ∷ map moved_up (drop kept ws))) c.of.ensures)
    c.flat_node-node.ensures.label c.flat_node-node.ensures.places.0 c.flat_node-node.ensures.places.1 (omega (arith, c.if-len-ge-MAX_NUMBER.false, c.len-2.ensures, a.nodes.ok.0))
