use Rattle.std.proofs.Common.{◌≡◌, refl, ◌+◌, ◌<◌, ◌≤◌, subst, ap, ◌∙◌}
use Rattle.tree.specs.Node.{node_tree}
use Rattle.tree.specs.declared.kind.Kind.TheVariants.{ClassBody}
use Rattle.tree.specs.Tree.{Tree, node, kind_of, parts_of}
use Rattle.name_tables.specs.BoundNames.{each_part}
use Rattle.early_errors.specs.declared.EarlyError.TheVariants.{DuplicateConstructor}
use Rattle.early_errors.specs.Classes.{after_first, constructor_places, duplicate_constructor}
use Rattle.early_errors.specs.Early.{each}
use Rattle.early_errors.specs.Owns.{own_of}
use Rattle.early_errors.specs.declared.own.OwnErrors.TheVariants.{ClassElements}
use Rattle.early_errors.specs.Walk.{after}
use Rattle.early_errors.proofs.AllButFirst.{to_come, one-comes, none-comes, all-came}
use Rattle.early_errors.proofs.classes.constructor_errors.Goals as goal
use Rattle.early_errors.proofs.classes.constructor_errors.Goals.{in-Some, in_default}

body : (t : Tree) → own_of (kind_of t) ≡ ClassElements → each DuplicateConstructor (after_first (each_part constructor_places (parts_of t))) ≡ each DuplicateConstructor (duplicate_constructor t)
unfolding duplicate_constructor
body (node ClassBody w g s e ps) h = refl
body (node _ w g s e ps) h = absurd (cc)

pub returns : goal.returns
returns c =
    all-came DuplicateConstructor constructor_places c.loop-index.found _ c.loop-index.has_one (parts_of (node_tree c.args.body)) c.loop-index.index (subst (λ n. n ≤ c.loop-index.index) c.part_count-index-end.ensures c.loop-index-test.false) c.loop-index.invariant
    ∙ ap (after c.args.found) (body (node_tree c.args.body) c.requires)

pub loop-index-preserved : goal.loop-index-preserved
loop-index-preserved c =
    let ps = parts_of (node_tree c.args.body) in
    let l = subst (λ n. c.loop-index.index < n) c.part_count-index-end.ensures c.loop-index-test.true in
    elim c.match-constructor_place.branch [
      | in-Some w ↦
          (λ i. after (w.found-is i) (to_come DuplicateConstructor constructor_places (w.has_one-is i) (c.loop-index.index + 1) ps))
          ∙ one-comes DuplicateConstructor constructor_places c.loop-index.found w.with_error_if-found.result _ c.loop-index.has_one ps c.loop-index.index _ c.constructor_place.result w.in-Some.at l c.part.ensures c.constructor_place.ensures w.in-Some.is
          w.with_error_if-found.ensures c.loop-index.invariant
      | in_default w ↦
          (λ i. after (w.found-is i) (to_come DuplicateConstructor constructor_places (w.has_one-is i) (c.loop-index.index + 1) ps))
          ∙ none-comes DuplicateConstructor constructor_places c.loop-index.found _ c.loop-index.has_one ps c.loop-index.index _ c.constructor_place.result l c.part.ensures c.constructor_place.ensures w.in_default.is c.loop-index.invariant
    ]
