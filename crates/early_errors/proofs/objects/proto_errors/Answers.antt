use Rattle.std.proofs.Common.{◌+◌, ◌<◌, ◌≤◌, subst, ◌∙◌}
use Rattle.tree.specs.Node.{node_tree}
use Rattle.tree.specs.Tree.{parts_of}
use Rattle.early_errors.specs.declared.EarlyError.TheVariants.{DuplicateProto}
use Rattle.early_errors.specs.Objects.{proto_places}
use Rattle.early_errors.specs.Walk.{after}
use Rattle.early_errors.proofs.AllButFirst.{to_come, one-comes, none-comes, all-came}
use Rattle.early_errors.proofs.objects.proto_errors.Goals as goal
use Rattle.early_errors.proofs.objects.proto_errors.Goals.{in-Some, in_default}

pub returns : goal.returns
returns c =
    all-came DuplicateProto proto_places c.loop-index.found _ c.loop-index.has_one (parts_of (node_tree c.args.object)) c.loop-index.index (subst (λ n. n ≤ c.loop-index.index) c.part_count-index-end.ensures c.loop-index-test.false) c.loop-index.invariant

pub loop-index-preserved : goal.loop-index-preserved
loop-index-preserved c =
    let ps = parts_of (node_tree c.args.object) in
    let l = subst (λ n. c.loop-index.index < n) c.part_count-index-end.ensures c.loop-index-test.true in
    elim c.match-proto_place.branch [
      | in-Some w ↦
          (λ i. after (w.found-is i) (to_come DuplicateProto proto_places (w.has_one-is i) (c.loop-index.index + 1) ps))
          ∙ one-comes DuplicateProto proto_places c.loop-index.found w.with_error_if-found.result _ c.loop-index.has_one ps c.loop-index.index _ c.proto_place.result w.in-Some.at l c.part.ensures c.proto_place.ensures w.in-Some.is w.with_error_if-found.ensures
          c.loop-index.invariant
      | in_default w ↦
          (λ i. after (w.found-is i) (to_come DuplicateProto proto_places (w.has_one-is i) (c.loop-index.index + 1) ps))
          ∙ none-comes DuplicateProto proto_places c.loop-index.found _ c.loop-index.has_one ps c.loop-index.index _ c.proto_place.result l c.part.ensures c.proto_place.ensures w.in_default.is c.loop-index.invariant
    ]
