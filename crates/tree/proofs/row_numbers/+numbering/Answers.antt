use Rattle.std.proofs.Common.{◌≡◌, ℕ, ◌+◌, ◌<◌, length, set, get_or, sym, ap, ◌∙◌, refl, subst, arith, Option, Some, None, List, Vec, Global, slice_get, length-set}
use Rattle.std.proofs.lemmas.List.{get_or-set_same}
use Rattle.std.proofs.lemmas.Option.{slice_get-get_or, slice_get_read}
use Rattle.tree.specs.declared.flat_node.FlatNode.{FlatNode}
use Rattle.tree.specs.declared.kind.Flags.{Flags}
use Rattle.tree.specs.declared.node_use.NodeUse.{NodeUse}
use Rattle.tree.specs.declared.node_use.ParentUse.{ParentUse}
use Rattle.tree.specs.Flat.{AreBefore, run_of}
use Rattle.tree.specs.declared.flat_node.NodeNumber.{NodeNumber}
use Rattle.tree.specs.NodeUses.{part_use}
use Rattle.tree.specs.Numbering.{KeepsLabels, NumbersParts}
use Rattle.tree.proofs.FlatTrees.{Pool, AreBefore-more, AreBefore-at}
use Rattle.tree.proofs.Runs.{at_place}
use Rattle.tree.proofs.StandingNodes.{above_low, above_high, node_links, same_links, same_count}
use Rattle.tree.proofs.NumberedNodes.{NumberedSoFar, numbered_all, numbered_gap, numbered_part, row_set, kept_twice, node_numbered, none_numbered}
use Rattle.tree.proofs.row_numbers.+numbering.Goals as goal
use Rattle.tree.proofs.row_numbers.+numbering.Goals.{number_parts-in-Some, number_parts-in_default}

-- that the rows of all below this node are numbered
abbrev numbered : Pool → List FlatNode → List FlatNode → NodeUse → FlatNode → ℕ → ℕ → Type 0
numbered pool old new a x r next = NumbersParts pool old new (record { node_use = a; kind = x.kind; flags = x.flags }) (run_of pool x) r next

own_kept : (es : List FlatNode) (k : ℕ) (x y : FlatNode) → k < length es → x ≡ get_or es k x → y ≡ record x { row = y.row } → KeepsLabels es (set es k y)
own_kept es k x y l g h = row_set es (set es k y) k x y.row l g (ap (set es k) h)

pub number_below-section-run-requires : goal.number_below-section-run-requires
number_below-section-run-requires t c = (node_links c.args.pool.now c.args.nodes.now.items c.args.number c.index-node.result.now c.requires.linked c.requires.there c.index-node.ensures).0

pub number_below-number_parts-requires : goal.number_below-number_parts-requires
number_below-number_parts-requires t c =
    let x = c.index-node.result.now in
    let es = c.args.nodes.now.items in
    let run : AreBefore c.args.number c.section-run.result.now =
    subst (λ (os : Pool). AreBefore c.args.number os) (sym c.section-run.ensures) (node_links c.args.pool.now es c.args.number x c.requires.linked c.requires.there c.index-node.ensures).1 in (
      omega (arith, c.decreases, above_low c.args.number c.section-run.result.now run),
      (AreBefore-more c.args.number (length es) c.section-run.result.now (omega (arith, c.requires.there)) run, (c.requires.linked, c.requires.counted)),
    )

pub number_below-returns-clause-numbered : goal.number_below-returns-clause-numbered
number_below-returns-clause-numbered t c = λ x e.
    let z = c.index-node.result.now in
    let pool = c.args.pool.now in
    let es = c.args.nodes.now.items in
    let new = c.number_parts.new.nodes.items in
    let around : ParentUse = record { node_use = c.args.node_use; kind = z.kind; flags = z.flags } in
    let here = slice_get_read es (length es) c.args.number z refl c.requires.there c.index-node.ensures in
    let same : z ≡ x = cc in
    let given = subst (λ (g : Flags). NumbersParts pool es new (record { node_use = c.args.node_use; kind = z.kind; flags = g }) c.section-run.result.now c.args.row c.number_parts.result) c.flags.ensures c.number_parts.ensures.numbered in
    subst (λ (y : FlatNode). numbered pool es new c.args.node_use y c.args.row c.number_parts.result) same
    (subst (λ (os : Pool). NumbersParts pool es new around os c.args.row c.number_parts.result) c.section-run.ensures given)

pub number_node-number_below-requires : goal.number_node-number_below-requires
number_node-number_below-requires t c =
    let y = c.number_own-next.new.node in
    let es = c.args.nodes.now.items in
    let kept = own_kept es c.args.number c.index_mut-node.result.now y c.requires.there c.index_mut-node.ensures.value c.number_own-next.ensures.kept in (
      omega (arith, c.decreases),
      (omega (arith, c.requires.there, length-set es c.args.number y), (same_links c.args.pool.now 0 es (set es c.args.number y) kept.places c.requires.linked, c.number_own-next.ensures.counted)),
    )

pub number_node-returns-then-node-eq0-clause-shape : goal.number_node-returns-then-node-eq0-clause-shape
number_node-returns-then-node-eq0-clause-shape t c =
    own_kept c.args.nodes.now.items c.args.number c.index_mut-node.result.now c.number_own-next.new.node c.requires.there c.index_mut-node.ensures.value c.number_own-next.ensures.kept

pub number_node-returns-then-node-eq0-clause-numbered : goal.number_node-returns-then-node-eq0-clause-numbered
number_node-returns-then-node-eq0-clause-numbered t c =
    let x = c.index_mut-node.result.now in
    let y = c.number_own-next.new.node in
    let pool = c.args.pool.now in
    let es = c.args.nodes.now.items in
    let next = c.number_own-next.result in
    let mid : List FlatNode = set es c.args.number y in
    let around : ParentUse = record { node_use = c.args.node_use; kind = x.kind; flags = x.flags } in
    let none : x.count ≡ 0 = sym (ap (λ (e : FlatNode). e.count) c.number_own-next.ensures.kept) ∙ c.if-node-eq0.true in
    node_numbered pool es mid mid c.args.node_use c.args.number c.args.row next next x y.row c.requires.there c.index_mut-node.ensures.value (ap (set es c.args.number) c.number_own-next.ensures.kept)
    c.number_own-next.ensures.own c.number_own-next.ensures.next (none_numbered pool mid around x next none)

pub number_node-returns-clause-shape : goal.number_node-returns-clause-shape
number_node-returns-clause-shape t c =
    let y = c.number_own-next.new.node in
    let es = c.args.nodes.now.items in
    kept_twice es (set es c.args.number y) c.number_below.new.nodes.items
    (own_kept es c.args.number c.index_mut-node.result.now y c.requires.there c.index_mut-node.ensures.value c.number_own-next.ensures.kept) c.number_below.ensures.shape

pub number_node-returns-clause-numbered : goal.number_node-returns-clause-numbered
number_node-returns-clause-numbered t c =
    let x = c.index_mut-node.result.now in
    let y = c.number_own-next.new.node in
    let pool = c.args.pool.now in
    let es = c.args.nodes.now.items in
    let new = c.number_below.new.nodes.items in
    let next = c.number_own-next.result in
    let mid : List FlatNode = set es c.args.number y in
    let there : slice_get mid c.args.number ≡ Some y =
    slice_get-get_or mid c.args.number y (omega (arith, c.requires.there, length-set es c.args.number y)) ∙ ap Some (get_or-set_same es c.args.number y y c.requires.there) in
    node_numbered pool es mid new c.args.node_use c.args.number c.args.row next c.number_below.result x y.row c.requires.there c.index_mut-node.ensures.value (ap (set es c.args.number) c.number_own-next.ensures.kept)
    c.number_own-next.ensures.own c.number_own-next.ensures.next
    (subst (λ (e : FlatNode). numbered pool mid new c.args.node_use e next c.number_below.result) c.number_own-next.ensures.kept (c.number_below.ensures.numbered y there))

pub number_parts-child_place-place-requires-clause-there : goal.number_parts-child_place-place-requires-clause-there
number_parts-child_place-place-requires-clause-there t c =
    let run = c.args.run.now in
    let i = c.loop-index.index in
    let low : i < length run = omega (arith, c.loop-index-test.true, c.loop-index.auto.index-end) in
    let e : slice_get run i ≡ Some (Some c.in-Some.part) = at_place run i c.index-run-index.result low c.index-run-index.is ∙ ap Some (sym c.number.ensures ∙ c.in-Some.is) in
    omega (arith, AreBefore-at (length c.args.nodes.now.items) run i c.in-Some.part c.requires.before e, same_count c.args.nodes.now.items c.loop-index.nodes.items c.loop-index.invariant.shape.places)

pub number_parts-child_place-place-requires-clause-linked : goal.number_parts-child_place-place-requires-clause-linked
number_parts-child_place-place-requires-clause-linked t c = same_links c.args.pool.now 0 c.args.nodes.now.items c.loop-index.nodes.items c.loop-index.invariant.shape.places c.requires.linked

pub number_parts-number_node-next-requires : goal.number_parts-number_node-next-requires
number_parts-number_node-next-requires t c =
    let run = c.args.run.now in
    let i = c.loop-index.index in
    let low : i < length run = omega (arith, c.loop-index-test.true, c.loop-index.auto.index-end) in
    let e : slice_get run i ≡ Some (Some c.in-Some.part) = at_place run i c.index-run-index.result low c.index-run-index.is ∙ ap Some (sym c.number.ensures ∙ c.in-Some.is) in (
      omega (arith, c.decreases, above_high run i c.in-Some.part e),
      (
        omega (arith, AreBefore-at (length c.args.nodes.now.items) run i c.in-Some.part c.requires.before e, same_count c.args.nodes.now.items c.loop-index.nodes.items c.loop-index.invariant.shape.places),
        (same_links c.args.pool.now 0 c.args.nodes.now.items c.loop-index.nodes.items c.loop-index.invariant.shape.places c.requires.linked, c.loop-index.invariant.counted),
      ),
    )

pub number_parts-loop-index-preserved : goal.number_parts-loop-index-preserved
number_parts-loop-index-preserved t c =
    let pool = c.args.pool.now in
    let old = c.args.nodes.now.items in
    let now = c.loop-index.nodes.items in
    let run = c.args.run.now in
    let around = c.args.around in
    let i = c.loop-index.index in
    let low : i < length run = omega (arith, c.loop-index-test.true, c.loop-index.auto.index-end) in
    let read = at_place run i c.index-run-index.result low c.index-run-index.is in
    elim c.match-number.branch [
      | number_parts-in-Some w ↦
          let is : c.match-number.nodes.items ≡ w.number_node-next.new.nodes.items = ap (λ (v : Vec FlatNode Global). v.items) w.nodes-is in
          let e : slice_get run i ≡ Some (Some w.in-Some.part) = read ∙ ap (λ (o : Option NodeNumber). Some o) (sym c.number.ensures ∙ w.in-Some.is) in
          record {
            shape = subst (λ (es : List FlatNode). KeepsLabels old es) (sym is) (kept_twice old now w.number_node-next.new.nodes.items c.loop-index.invariant.shape w.number_node-next.ensures.shape);
            numbered = subst (λ (es : List FlatNode). NumberedSoFar pool old es around run c.args.row (i + 1) c.match-number.next) (sym is)
                (subst (λ n. NumberedSoFar pool old w.number_node-next.new.nodes.items around run c.args.row (i + 1) n) (sym w.next-is)
                (numbered_part pool old now w.number_node-next.new.nodes.items around run c.args.row i c.loop-index.next w.number_node-next.result w.in-Some.part w.part_use.result
                c.loop-index.invariant.numbered c.loop-index.invariant.shape e low (λ first u s. w.part_use.ensures ∙ ap (part_use around) (w.child_place-place.ensures first u s)) w.number_node-next.ensures.numbered));
            counted = subst (λ n. 0 < n) (sym w.next-is) w.number_node-next.ensures.counted;
          }
      | number_parts-in_default w ↦
          let is : c.match-number.nodes.items ≡ now = ap (λ (v : Vec FlatNode Global). v.items) w.nodes-is in
          let e : slice_get run i ≡ Some None = read ∙ ap (λ (o : Option NodeNumber). Some o) (sym c.number.ensures ∙ w.in_default.is) in
          record {
            shape = subst (λ (es : List FlatNode). KeepsLabels old es) (sym is) c.loop-index.invariant.shape;
            numbered = subst (λ (es : List FlatNode). NumberedSoFar pool old es around run c.args.row (i + 1) c.match-number.next) (sym is)
                (subst (λ n. NumberedSoFar pool old now around run c.args.row (i + 1) n) (sym w.next-is)
                (numbered_gap pool old now around run c.args.row i c.loop-index.next c.loop-index.invariant.numbered e));
            counted = subst (λ n. 0 < n) (sym w.next-is) c.loop-index.invariant.counted;
          }
    ]

pub number_parts-returns-clause-numbered : goal.number_parts-returns-clause-numbered
number_parts-returns-clause-numbered t c =
    numbered_all c.args.pool.now c.args.nodes.now.items c.loop-index.nodes.items c.args.around c.args.run.now c.args.row c.loop-index.index c.loop-index.next c.loop-index.invariant.numbered (omega (arith, c.loop-index-test.false))
