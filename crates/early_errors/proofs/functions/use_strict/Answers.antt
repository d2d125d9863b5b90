use Rattle.std.proofs.Common.{◌≤◌, ◌<◌, subst}
use Rattle.tree.specs.Node.{node_tree}
use Rattle.tree.specs.Tree.{parts_of}
use Rattle.early_errors.specs.declared.EarlyError.TheVariants.{UseStrictBehindPattern}
use Rattle.early_errors.specs.Functions.{use_strict}
use Rattle.early_errors.proofs.FunctionLists.{places-turn, places-end}
use Rattle.early_errors.proofs.functions.use_strict.Goals as goal

pub loop-index-preserved : goal.loop-index-preserved
loop-index-preserved c =
    places-turn use_strict UseStrictBehindPattern (parts_of (node_tree c.args.body)) c.loop-index.index _ c.loop-index.found c.with_place-found.result _ _
    (subst (λ n. c.loop-index.index < n) c.part_count-index-end.ensures c.loop-index-test.true) c.part.ensures c.directive_place-place.ensures c.with_place-found.ensures c.loop-index.invariant

pub returns : goal.returns
returns c =
    places-end use_strict UseStrictBehindPattern (parts_of (node_tree c.args.body)) c.loop-index.index _ c.loop-index.found
    (subst (λ n. n ≤ c.loop-index.index) c.part_count-index-end.ensures c.loop-index-test.false) c.loop-index.invariant
