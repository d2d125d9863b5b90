use Rattle.std.proofs.Common.{◌≡◌, ◌∙◌, ◌<◌, ℕ, ◌+◌, true, false, Some, None, [], ◌∷◌, ◌++◌, sym, ap, subst, refl, arith, rules}
use Rattle.tree.specs.Node.{node_tree, list_parts}
use Rattle.tree.specs.Tree.{Tree, Parts, part, gap, parts_of, part_at, part_count, node_total}
use Rattle.tree.proofs.PartWalk.{parts_drop, part_smaller, parts_drop-some, parts_drop-gap, parts_drop-past}
use Rattle.language.specs.Expressions.{first_has_optional}
use Rattle.spelling_table.specs.declared.production.Production.TheVariants as by
use Rattle.spelling_table.specs.Outlines.{role_of, slot_of, parts_after}
use Rattle.spelling_table.specs.Productions.{outline_of}
use Rattle.spellings.specs.Remaining.{left}
use Rattle.spellings.specs.Wherever.{spelled_by, chain_above}
use Rattle.spellings.specs.Cursors.{left_by}
use Rattle.paren_planner.specs.Passing.{may_pass, pairs_of}
use Rattle.paren_planner.specs.Noted.{PartsNoted}
use Rattle.paren_planner.specs.Steps as planned
use Rattle.paren_planner.specs.Steps.{has_row_at}
use Rattle.paren_planner.specs.declared.steps.Step.TheVariants.{Free}
use Rattle.cost_table.specs.Weighed.{is_plain_outline, slot_free}
use Rattle.std.specs.Prelude.{set}
use Rattle.cost_table.proofs.NodeRowNumbers.{chained_at}
use Rattle.paren_planner.proofs.WalkSteps.{begun_stop, begun_finish, noted_unspelled, noted_alone, noted_around, place_within, noted_free, noted_word, noted_hidden, noted_through, outline_fixed}
use Rattle.paren_planner.proofs.PassedNodes.{reached_first, reached_skip, reached_part, reached_next, noted_passed, passing_below, passing_parts}
use Rattle.paren_planner.proofs.step_walk.+visiting.Goals as goal

-- the part at a place
here : (ps qs : Parts) (i : ℕ) (u : Tree) → ps ≡ qs → Some u ≡ part_at qs i → parts_drop i ps ≡ part u (parts_drop (i + 1) ps)
here ps qs i u e h = parts_drop-some ps i u (h ∙ ap (λ rs. part_at rs i) (sym e))

gap_here : (ps qs : Parts) (i m : ℕ) → ps ≡ qs → None ≡ part_at qs i → m ≡ part_count ps → i < m → parts_drop i ps ≡ gap (parts_drop (i + 1) ps)
gap_here ps qs i m e h k l = parts_drop-gap ps i (h ∙ ap (λ rs. part_at rs i) (sym e)) (omega (arith, k, l))

pub visit_parts-loop-index-init : goal.visit_parts-loop-index-init
visit_parts-loop-index-init t c =
    let ps = list_parts c.parts-parts.result in
    reached_first _ _ c.args.node _ _ _ ps c.span-from.result.start c.args.steps.now (λ i. left_by (c.new-slots.ensures i) (c.parts-parts.ensures i)) c.parts-parts.ensures c.span-from.ensures.starts c.requires.passing

pub visit_parts-loop-index-preserved-in_default : goal.visit_parts-loop-index-preserved-in_default
visit_parts-loop-index-preserved-in_default t c =
    reached_skip _ _ c.args.node _ _ _ _ _ _ _ _ _ c.loop-index.invariant (gap_here (list_parts c.parts-parts.result) _ c.loop-index.index _ c.parts-parts.ensures c.in_default.ensures.tree c.len-index-end.ensures c.loop-index-test.true)

pub visit_parts-returns-in_default-take : goal.visit_parts-returns-in_default-take
visit_parts-returns-in_default-take t c =
    let ps = list_parts c.parts-parts.result in
    subst (λ qs. PartsNoted (may_pass c.args.pairs.now) (role_of c.args.own.now) (left (spelled_by c.args.node c.args.own.now c.args.production.now).slots) qs false c.args.steps.now c.push.new.self) c.parts-parts.ensures
    (begun_stop _ _ _ (left_by c.loop-index.slots ps) _ _ _ (node_tree c.in-Some.part) _ _ _ _ c.loop-index.invariant.begun
    (here ps _ c.loop-index.index (node_tree c.in-Some.part) c.parts-parts.ensures c.in-Some.ensures.tree) c.in_default-take.ensures (c.in_ok-push.ensures.items ∙ ap (λ x. c.loop-index.steps ++ x ∷ []) c.unplaced_step.ensures))

pub visit_parts-returns : goal.visit_parts-returns
visit_parts-returns t c =
    let ps = list_parts c.parts-parts.result in
    subst (λ qs. PartsNoted (may_pass c.args.pairs.now) (role_of c.args.own.now) (left (spelled_by c.args.node c.args.own.now c.args.production.now).slots) qs c.loop-index.are_free c.args.steps.now c.loop-index.steps) c.parts-parts.ensures
    (begun_finish _ _ _ _ _ _ _ _ _ c.loop-index.invariant.begun (parts_drop-past ps c.loop-index.index (omega (arith, c.len-index-end.ensures, c.loop-index-test.false))))

pub visit_parts-visit_node-requires : goal.visit_parts-visit_node-requires
visit_parts-visit_node-requires t c =
    let ps = list_parts c.parts-parts.result in
    let n = node_tree c.args.node in
    let u = node_tree c.in-Some.part in
    let at : Some u ≡ part_at (parts_of n) c.loop-index.index = c.in-Some.ensures.tree in
    let smaller : node_total u < node_total n = part_smaller n u c.loop-index.index at in
    let above : c.holds_chain-is_chain.result ≡ true → first_has_optional (parts_of n) ≡ true = λ h. c.requires.chain (ap (λ k. chain_above c.args.own.now k (outline_of c.args.production.now).front) (sym c.kind.ensures) ∙ sym c.holds_chain-is_chain.ensures ∙ h) in (
      search rules,
      (
        chained_at n u c.loop-index.index c.holds_chain-is_chain.result c.leads_chain-in_chain.result above at c.leads_chain-in_chain.ensures,
        reached_part _ _ c.args.node c.in-Some.part _ (slot_of c.in-Some-take.slot) _ (left_by c.loop-index.slots ps) (left_by c.take.new.self ps) ps c.loop-index.index _ _ _ _ c.loop-index.invariant
            (here ps _ c.loop-index.index u c.parts-parts.ensures at) c.in-Some-take.ensures c.in-Some.ensures.rows,
      ),
    )

pub visit_parts-loop-index-preserved : goal.visit_parts-loop-index-preserved
visit_parts-loop-index-preserved t c =
    let ps = list_parts c.parts-parts.result in
    let u = node_tree c.in-Some.part in
    reached_next _ _ c.args.node c.in-Some.part _ (slot_of c.in-Some-take.slot) _ (left_by c.loop-index.slots ps) (left_by c.take.new.self ps) ps c.loop-index.index _ _ _ _ _ _ _ c.loop-index.invariant
    (here ps _ c.loop-index.index u c.parts-parts.ensures c.in-Some.ensures.tree) c.in-Some-take.ensures c.in-Some.ensures.rows c.span-from-in-loop-index.ensures.ends c.in_ok-is_free.ensures

pub visit_node-visit_atom-requires : goal.visit_node-visit_atom-requires
visit_node-visit_atom-requires t c = (
  search rules,
  (
    c.requires.chain,
    λ m. passing_below (pairs_of c.args.pairs.now) c.args.from c.args.node _ (c.requires.passing m),
  ),
)

pub visit_node-visit_at-requires : goal.visit_node-visit_at-requires
visit_node-visit_at-requires t c = (
  search rules,
  (
    c.requires.chain,
    λ m. passing_below (pairs_of c.args.pairs.now) c.args.from c.args.node _ (c.requires.passing m),
  ),
)

pub visit_node-returns-then-is_passed : goal.visit_node-returns-then-is_passed
visit_node-returns-then-is_passed t c =
    noted_passed (may_pass c.args.pairs.now) (pairs_of c.args.pairs.now) (role_of c.args.context.above.now) (slot_of c.args.context.slot.now) c.args.from c.args.node c.row_count.result c.args.steps.now c.push.new.self
    (c.is_passed.ensures.known c.if-is_passed.true) (c.is_passed.ensures.fixed c.if-is_passed.true) (c.is_passed.ensures.pairless c.if-is_passed.true) (c.requires.passing (c.is_passed.ensures.known c.if-is_passed.true))
    c.row_count.ensures c.in_ok-push.ensures.items

pub visit_atom-returns : goal.visit_atom-returns
visit_atom-returns t c =
    noted_word (may_pass c.args.pairs.now) (role_of c.args.context.above.now) (role_of c.widest_of.result) (slot_of c.args.context.slot.now) (node_tree c.args.node) (spelled_by c.args.node c.widest_of.result by.Leaf) c.kind.result c.args.steps.now c.push.new.self
    (c.widest_of.ensures (role_of c.args.context.above.now)) (c.is_leaf.ensures.spelled c.if-not-is_leaf.false) refl (c.is_leaf.ensures.parts c.if-not-is_leaf.false) (sym c.has_row.ensures ∙ c.if-not-has_row.false) (sym c.takes_atom.ensures ∙ c.if-not-takes_atom.false) c.kind.ensures c.in_ok-push.ensures.items

pub visit_at-returns-in_default : goal.visit_at-returns-in_default
visit_at-returns-in_default t c =
    noted_unspelled (may_pass c.args.pairs.now) (role_of c.args.above.now) (role_of c.widest_of-own.result) (slot_of c.args.slot.now) (node_tree c.args.node) c.node_step.result c.args.steps.now c.push.new.self
    c.node_step.ensures.visit c.node_step.ensures.requirements (c.widest_of-own.ensures (role_of c.args.above.now)) c.in_default.ensures.ways c.in_ok-push.ensures.items

pub visit_at-returns-then-part_count-eq0 : goal.visit_at-returns-then-part_count-eq0
visit_at-returns-then-part_count-eq0 t c =
    noted_alone (may_pass c.args.pairs.now) (role_of c.args.above.now) (role_of c.widest_of-own.result) (slot_of c.args.slot.now) (node_tree c.args.node) c.node_step-visit.result (spelled_by c.args.node c.widest_of-own.result c.in-Some.production) c.args.steps.now c.push-then-part_count-eq0.new.self
    c.node_step-visit.ensures.visit (c.node_step-visit.ensures.requirements ∙ ap (λ l. Some l) c.requirements-requirements.ensures) (c.widest_of-own.ensures (role_of c.args.above.now)) c.in-Some.ensures.ways (sym c.part_count.ensures ∙ c.if-part_count-eq0.true) c.in_ok-push-2.ensures.items

pub visit_at-returns : goal.visit_at-returns
visit_at-returns t c =
    noted_around (may_pass c.args.pairs.now) (role_of c.args.above.now) (role_of c.widest_of-own.result) (slot_of c.args.slot.now) (node_tree c.args.node) c.node_step-visit.result (spelled_by c.args.node c.widest_of-own.result c.in-Some.production) _ c.args.steps.now c.push-2.new.self c.visit_parts-2.new.steps c.push-3.new.self
    c.node_step-visit.ensures.visit (c.node_step-visit.ensures.requirements ∙ ap (λ l. Some l) c.requirements-requirements.ensures) (c.widest_of-own.ensures (role_of c.args.above.now)) c.in-Some.ensures.ways c.in_ok-push-3.ensures.items c.in_ok-are_free.ensures c.in_ok-push-4.ensures.items

pub visit_at-set-requires : goal.visit_at-set-requires
visit_at-set-requires t c = (
  search rules,
  place_within (may_pass c.args.pairs.now) (role_of c.widest_of-own.result) _ _ _ c.node_step-visit.result c.len-index.result c.args.steps.now c.push-2.new.self c.visit_parts-2.new.steps
      c.len-index.ensures.value c.in_ok-push-3.ensures.items c.in_ok-are_free.ensures,
)

pub visit_at-returns-then-is_free : goal.visit_at-returns-then-is_free
visit_at-returns-then-is_free t c =
    let s = slot_of c.args.slot.now in
    let l = c.requirements-requirements.ensures in
    let v = c.node_step-visit.ensures.visit in
    noted_free (may_pass c.args.pairs.now) (role_of c.args.above.now) (role_of c.widest_of-own.result) s (node_tree c.args.node) c.node_step-visit.result (spelled_by c.args.node c.widest_of-own.result c.in-Some.production)
    c.node_step-visit.result.kind _ c.len-index.result c.args.steps.now c.push-2.new.self c.visit_parts-2.new.steps c.set.new.self
    v.kind (c.widest_of-own.ensures (role_of c.args.above.now)) c.in-Some.ensures.ways
    (ap (λ u. is_plain_outline (planned.outline_of u)) (sym l) ∙ c.is_free.ensures.plain c.if-is_free.true) (ap has_row_at (sym v.slot) ∙ c.is_free.ensures.row c.if-is_free.true) (ap (λ u. slot_free s u.rank) (sym l) ∙ ap (λ u. slot_free u c.requirements-requirements.result.rank) (sym v.slot) ∙ c.is_free.ensures.slot c.if-is_free.true)
    c.if-are_free.true c.len-index.ensures.value c.in_ok-push-3.ensures.items c.in_ok-are_free.ensures
    (c.set.ensures ∙ ap (λ u. set c.visit_parts-2.new.steps c.len-index.result (Free c.node_step-visit.result.kind u.rank)) l)

pub visit_atom-returns-then-not-has_row : goal.visit_atom-returns-then-not-has_row
visit_atom-returns-then-not-has_row t c =
    noted_hidden (may_pass c.args.pairs.now) (role_of c.args.context.above.now) (role_of c.widest_of.result) (slot_of c.args.context.slot.now) (node_tree c.args.node) (spelled_by c.args.node c.widest_of.result by.Leaf) c.args.steps.now
    (c.widest_of.ensures (role_of c.args.context.above.now)) (c.is_leaf.ensures.spelled c.if-not-is_leaf.false) refl (c.is_leaf.ensures.parts c.if-not-is_leaf.false) (sym c.has_row.ensures ∙ c.if-not-has_row.true)

pub visit_at-returns-then-has_fixed_slots : goal.visit_at-returns-then-has_fixed_slots
visit_at-returns-then-has_fixed_slots t c =
    let n = node_tree c.args.node in
    let x = outline_of c.in-Some.production in
    noted_through c.visit_parts.result (may_pass c.args.pairs.now) (role_of c.args.above.now) (role_of c.widest_of-own.result) (slot_of c.args.slot.now) n (spelled_by c.args.node c.widest_of-own.result c.in-Some.production) c.args.steps.now c.visit_parts.new.steps
    (c.widest_of-own.ensures (role_of c.args.above.now)) c.in-Some.ensures.ways (sym c.is_settled.ensures ∙ c.if-is_settled.true) (outline_fixed x (parts_after x.from (parts_of n)) (c.has_fixed_slots.ensures c.if-has_fixed_slots.true)) c.visit_parts.ensures

pub visit_at-visit_parts-requires : goal.visit_at-visit_parts-requires
visit_at-visit_parts-requires t c = (
  search rules,
  (
    c.in-Some.ensures.chain,
    λ m. passing_parts (pairs_of c.args.pairs.now) c.args.node _ (role_of c.widest_of-own.result) (spelled_by c.args.node c.widest_of-own.result c.in-Some.production) (c.widest_of-own.ensures (role_of c.args.above.now)) c.in-Some.ensures.ways (c.requires.passing m),
  ),
)

pub visit_at-visit_parts-requires-2 : goal.visit_at-visit_parts-requires-2
visit_at-visit_parts-requires-2 t c = (
  search rules,
  (
    c.in-Some.ensures.chain,
    λ m. passing_parts (pairs_of c.args.pairs.now) c.args.node _ (role_of c.widest_of-own.result) (spelled_by c.args.node c.widest_of-own.result c.in-Some.production) (c.widest_of-own.ensures (role_of c.args.above.now)) c.in-Some.ensures.ways (c.requires.passing m),
  ),
)
