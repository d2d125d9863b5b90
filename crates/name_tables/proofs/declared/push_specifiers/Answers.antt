use Rattle.std.proofs.Common.{◌≤◌, ◌<◌, subst}
use Rattle.tree.specs.Node.{node_tree}
use Rattle.tree.specs.Tree.{parts_of}
use Rattle.name_tables.specs.DeclaredNames.{specifier_names}
use Rattle.name_tables.specs.PatternParts.{all_bound, bound_as}
use Rattle.name_tables.proofs.EachPart.{push-turn, push-end}
use Rattle.name_tables.proofs.declared.push_specifiers.Goals as goal

pub loop-index-preserved : goal.loop-index-preserved
loop-index-preserved t c =
    push-turn (specifier_names (bound_as c.args.how)) (parts_of (node_tree c.args.import)) c.loop-index.index _ (all_bound c.loop-index.names.items) (all_bound c.push_specifier.new.names.items) _
    (subst (λ n. c.loop-index.index < n) c.part_count-index-end.ensures c.loop-index-test.true) c.part.ensures c.in_ok-push_specifier.ensures c.loop-index.invariant

pub returns : goal.returns
returns t c =
    push-end (specifier_names (bound_as c.args.how)) (parts_of (node_tree c.args.import)) c.loop-index.index (all_bound c.loop-index.names.items) _
    (subst (λ n. n ≤ c.loop-index.index) c.part_count-index-end.ensures c.loop-index-test.false) c.loop-index.invariant
