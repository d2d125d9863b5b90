use Rattle.std.proofs.Common.{◌+◌, ◌++◌, ◌<◌, ◌≤◌, subst, ap, ◌∙◌}
use Rattle.tree.specs.Node.{node_tree}
use Rattle.tree.specs.Tree.{parts_of, parts_drop}
use Rattle.name_tables.specs.BoundNames.{each_part}
use Rattle.early_errors.specs.PrivateNames.{declared}
use Rattle.name_tables.proofs.EachPart.{drop-step, drop-past}
use Rattle.early_errors.proofs.Privates.{nothing_declared, none_mapped}
use Rattle.early_errors.proofs.private_names.declares_private.Goals as goal

pub loop-index-preserved : goal.loop-index-preserved
loop-index-preserved c =
    let ps = parts_of (node_tree c.args.body) in
    let i = c.loop-index.index in
    c.loop-index.invariant ∙ drop-step declared ps i _ (subst (λ n. i < n) c.part_count-index-end.ensures c.loop-index-test.true) c.part.ensures
    ∙ ap (λ x. x ++ each_part declared (parts_drop (i + 1) ps)) (nothing_declared _ (none_mapped node_tree c.private_key.result c.is_some.result c.is_some.ensures c.if-is_some.false ∙ c.private_key.ensures))

pub returns : goal.returns
returns c = c.loop-index.invariant ∙ drop-past declared (parts_of (node_tree c.args.body)) c.loop-index.index (subst (λ n. n ≤ c.loop-index.index) c.part_count-index-end.ensures c.loop-index-test.false)
