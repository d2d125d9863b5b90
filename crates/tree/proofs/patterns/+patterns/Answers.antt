use Rattle.std.proofs.Common.{◌≡◌, ◌+◌, ◌<◌, ◌≤◌, length, set, sym, ap, ◌∙◌, refl, subst, arith, Option, Some, None, List, Vec, Global, slice_get}
use Rattle.tree.specs.declared.flat_node.FlatNode.{FlatNode}
use Rattle.tree.specs.Flat.{AreBefore}
use Rattle.tree.specs.declared.flat_node.NodeNumber.{NodeNumber}
use Rattle.tree.specs.Standing.{node_places}
use Rattle.tree.proofs.FlatTrees.{Pool, AreBefore-more, AreBefore-at}
use Rattle.tree.proofs.Runs.{at_place}
use Rattle.tree.proofs.StandingNodes.{above_low, above_high, node_links, same_links, same_count}
use Rattle.tree.proofs.PatternNodes.{MadeSoFar, made_none, made_all, made_gap, made_part, node_kept, node_made, places_set}
use Rattle.tree.proofs.patterns.+patterns.Goals as goal
use Rattle.tree.proofs.patterns.+patterns.Goals.{make_patterns-in-Some, make_patterns-in_default}

pub make_pattern-section-requires : goal.make_pattern-section-requires
make_pattern-section-requires t c = (node_links c.args.pool.now c.args.nodes.now.items c.args.number c.index_mut-node.result.now c.requires.linked c.requires.there c.index_mut-node.ensures.value).0

pub make_pattern-make_patterns-requires : goal.make_pattern-make_patterns-requires
make_pattern-make_patterns-requires t c =
    let x = c.index_mut-node.result.now in
    let y = c.relabel.new.node in
    let pool = c.args.pool.now in
    let es = c.args.nodes.now.items in
    let mid : List FlatNode = set es c.args.number y in
    let kept = places_set es mid c.args.number x y c.requires.there c.index_mut-node.ensures.value c.relabel.ensures refl in
    let run : AreBefore c.args.number c.section.result.now =
    subst (λ (os : Pool). AreBefore c.args.number os) (sym c.section.ensures) (node_links pool es c.args.number x c.requires.linked c.requires.there c.index_mut-node.ensures.value).1 in (
      omega (arith, c.decreases, above_low c.args.number c.section.result.now run),
      (AreBefore-more c.args.number (length mid) c.section.result.now (omega (arith, c.requires.there, same_count es mid kept.places)) run, same_links pool 0 es mid kept.places c.requires.linked),
    )

pub make_pattern-returns-in-Some-clause-shape : goal.make_pattern-returns-in-Some-clause-shape
make_pattern-returns-in-Some-clause-shape t c =
    let x = c.index_mut-node.result.now in
    let y = c.relabel.new.node in
    let es = c.args.nodes.now.items in
    let mid : List FlatNode = set es c.args.number y in
    record { places = c.make_patterns.ensures.shape.places ∙ (places_set es mid c.args.number x y c.requires.there c.index_mut-node.ensures.value c.relabel.ensures refl).places }

pub make_pattern-returns-in-Some-clause-made : goal.make_pattern-returns-in-Some-clause-made
make_pattern-returns-in-Some-clause-made t c =
    let x = c.index_mut-node.result.now in
    let y = c.relabel.new.node in
    let es = c.args.nodes.now.items in
    let mid : List FlatNode = set es c.args.number y in
    node_made c.args.pool.now es mid c.make_patterns.new.nodes.items c.args.number c.in-Some.from x y c.section.result.now c.requires.there c.index_mut-node.ensures.value c.relabel.ensures refl
    (places_set es mid c.args.number x y c.requires.there c.index_mut-node.ensures.value c.relabel.ensures refl) (sym c.first_pattern-made.ensures ∙ c.in-Some.is) c.section.ensures c.make_patterns.ensures.made

pub make_pattern-returns-in_default-clause-shape : goal.make_pattern-returns-in_default-clause-shape
make_pattern-returns-in_default-clause-shape t c =
    let es = c.args.nodes.now.items in
    places_set es _ c.args.number c.index_mut-node.result.now c.relabel.new.node c.requires.there c.index_mut-node.ensures.value c.relabel.ensures refl

pub make_pattern-returns-in_default-clause-made : goal.make_pattern-returns-in_default-clause-made
make_pattern-returns-in_default-clause-made t c =
    let x = c.index_mut-node.result.now in
    let y = c.relabel.new.node in
    let es = c.args.nodes.now.items in
    let mid : List FlatNode = set es c.args.number y in
    node_kept c.args.pool.now es mid c.args.number x y c.requires.there c.index_mut-node.ensures.value c.relabel.ensures refl (sym c.first_pattern-made.ensures ∙ c.in_default.is)

pub make_patterns-loop-index-init : goal.make_patterns-loop-index-init
make_patterns-loop-index-init t c = record { shape = record { places = refl }; made = made_none c.args.pool.now c.args.nodes.now.items c.args.run.now c.args.from }

pub make_patterns-make_pattern-requires : goal.make_patterns-make_pattern-requires
make_patterns-make_pattern-requires t c =
    let run = c.args.run.now in
    let i = c.loop-index.index in
    let low : i < length run = omega (arith, c.loop-index-test.true) in
    let e : slice_get run i ≡ Some (Some c.in-Some.part) = at_place run i c.index-run-index.result low c.index-run-index.is ∙ ap Some (sym c.number.ensures ∙ c.in-Some.is) in (
      omega (arith, c.decreases, above_high run i c.in-Some.part e),
      (
        omega (arith, AreBefore-at (length c.args.nodes.now.items) run i c.in-Some.part c.requires.before e, same_count c.args.nodes.now.items c.loop-index.nodes.items c.loop-index.invariant.shape.places),
        same_links c.args.pool.now 0 c.args.nodes.now.items c.loop-index.nodes.items c.loop-index.invariant.shape.places c.requires.linked,
      ),
    )

pub make_patterns-loop-index-preserved : goal.make_patterns-loop-index-preserved
make_patterns-loop-index-preserved t c =
    let pool = c.args.pool.now in
    let old = c.args.nodes.now.items in
    let now = c.loop-index.nodes.items in
    let run = c.args.run.now in
    let i = c.loop-index.index in
    let low : i < length run = omega (arith, c.loop-index-test.true) in
    let from : c.args.from ≤ i = omega (arith, c.loop-index.auto.index) in
    let read = at_place run i c.index-run-index.result low c.index-run-index.is in
    elim c.match-number.branch [
      | make_patterns-in-Some w ↦
          let is : c.match-number.nodes.items ≡ w.make_pattern.new.nodes.items = ap (λ (v : Vec FlatNode Global). v.items) w.nodes-is in
          let e : slice_get run i ≡ Some (Some w.in-Some.part) = read ∙ ap (λ (o : Option NodeNumber). Some o) (sym c.number.ensures ∙ w.in-Some.is) in
          record {
            shape = record { places = ap node_places is ∙ w.make_pattern.ensures.shape.places ∙ c.loop-index.invariant.shape.places };
            made = subst (λ (es : List FlatNode). MadeSoFar pool old es run c.args.from (i + 1)) (sym is)
                (made_part pool old now w.make_pattern.new.nodes.items run c.args.from i w.in-Some.part c.loop-index.invariant.made c.loop-index.invariant.shape from low e w.make_pattern.ensures.made);
          }
      | make_patterns-in_default w ↦
          let is : c.match-number.nodes.items ≡ now = ap (λ (v : Vec FlatNode Global). v.items) w.nodes-is in
          let e : slice_get run i ≡ Some None = read ∙ ap (λ (o : Option NodeNumber). Some o) (sym c.number.ensures ∙ w.in_default.is) in
          record {
            shape = record { places = ap node_places is ∙ c.loop-index.invariant.shape.places };
            made = subst (λ (es : List FlatNode). MadeSoFar pool old es run c.args.from (i + 1)) (sym is)
                (made_gap pool old now run c.args.from i c.loop-index.invariant.made from low e);
          }
    ]

pub make_patterns-returns-clause-made : goal.make_patterns-returns-clause-made
make_patterns-returns-clause-made t c = made_all c.args.pool.now c.args.nodes.now.items c.loop-index.nodes.items c.args.run.now c.args.from c.loop-index.index c.loop-index.invariant.made (omega (arith, c.loop-index-test.false))
