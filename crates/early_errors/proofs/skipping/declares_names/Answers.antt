use Rattle.std.proofs.Common.{◌+◌, ◌++◌, ◌<◌, ◌≤◌, subst, ap, ◌∙◌}
use Rattle.tree.specs.Node.{node_tree}
use Rattle.tree.specs.Tree.{parts_of, parts_drop}
use Rattle.name_tables.specs.BoundNames.{each_part}
use Rattle.early_errors.specs.Names.{lexical_names}
use Rattle.name_tables.proofs.EachPart.{drop-step, drop-past}
use Rattle.early_errors.proofs.PartsByKind.{on_false}
use Rattle.early_errors.proofs.skipping.declares_names.Goals as goal

pub loop-index-preserved : goal.loop-index-preserved
loop-index-preserved c = λ b.
    let ps = parts_of (node_tree c.args.block) in
    let i = c.loop-index.index in
    c.loop-index.invariant b ∙ drop-step (lexical_names b) ps i _ (subst (λ n. i < n) c.part_count-index-end.ensures c.loop-index-test.true) c.part.ensures
    ∙ ap (λ l. l ++ each_part (lexical_names b) (parts_drop (i + 1) ps)) (on_false c.declares.result c.if-declares.false c.declares.ensures b)

pub returns : goal.returns
returns c = λ b.
    let ps = parts_of (node_tree c.args.block) in
    c.loop-index.invariant b ∙ drop-past (lexical_names b) ps c.loop-index.index (subst (λ n. n ≤ c.loop-index.index) c.part_count-index-end.ensures c.loop-index-test.false)
