use Rattle.std.proofs.Common.{◌+◌, ◌++◌, ◌<◌, ◌≤◌, subst, sym, ap, ◌∙◌}
use Rattle.tree.specs.Node.{node_tree}
use Rattle.tree.specs.Tree.{parts_of, parts_drop}
use Rattle.name_tables.specs.BoundNames.{each_part}
use Rattle.early_errors.specs.Modules.{exported_names, locals}
use Rattle.name_tables.proofs.EachPart.{drop-step, drop-past}
use Rattle.early_errors.proofs.Exports.{nothing_exported}
use Rattle.early_errors.proofs.modules.has_exports.Goals as goal

pub loop-index-preserved : goal.loop-index-preserved
loop-index-preserved c =
    let ps = parts_of (node_tree c.args.program) in
    let i = c.loop-index.index in
    let l = subst (λ n. i < n) c.part_count-index-end.ensures c.loop-index-test.true in
    let none = nothing_exported _ (sym c.is_export.ensures ∙ c.if-is_export.false) in
    record {
      names = c.loop-index.invariant.names ∙ drop-step exported_names ps i _ l c.part.ensures ∙ ap (λ x. x ++ each_part exported_names (parts_drop (i + 1) ps)) none.0;
      locals = c.loop-index.invariant.locals ∙ drop-step locals ps i _ l c.part.ensures ∙ ap (λ x. x ++ each_part locals (parts_drop (i + 1) ps)) none.1;
    }

pub returns-clause-names : goal.returns-clause-names
returns-clause-names c =
    c.loop-index.invariant.names ∙ drop-past exported_names (parts_of (node_tree c.args.program)) c.loop-index.index (subst (λ n. n ≤ c.loop-index.index) c.part_count-index-end.ensures c.loop-index-test.false)

pub returns-clause-locals : goal.returns-clause-locals
returns-clause-locals c =
    c.loop-index.invariant.locals ∙ drop-past locals (parts_of (node_tree c.args.program)) c.loop-index.index (subst (λ n. n ≤ c.loop-index.index) c.part_count-index-end.ensures c.loop-index-test.false)
