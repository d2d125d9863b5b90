use Rattle.std.proofs.Common.{◌+◌, ◌++◌, ◌<◌, ◌≤◌, subst, sym, ap, ◌∙◌}
use Rattle.tree.specs.Node.{node_tree}
use Rattle.tree.specs.Tree.{parts_of, parts_drop}
use Rattle.name_tables.specs.BoundNames.{each_part}
use Rattle.early_errors.specs.Modules.{locals}
use Rattle.name_tables.proofs.EachPart.{drop-step, drop-past}
use Rattle.early_errors.proofs.Exports.{no_locals}
use Rattle.early_errors.proofs.modules.has_own_exports.Goals as goal
use Rattle.early_errors.proofs.modules.has_own_exports.Goals.{in-Some+else-exports_own_names, in_default}

pub loop-index-preserved : goal.loop-index-preserved
loop-index-preserved c =
    let ps = parts_of (node_tree c.args.program) in
    let i = c.loop-index.index in
    let rest = each_part locals (parts_drop (i + 1) ps) in
    let l = subst (λ n. i < n) c.part_count-index-end.ensures c.loop-index-test.true in
    elim c.match-part.branch [
      | in-Some+else-exports_own_names w ↦
          c.loop-index.invariant ∙ drop-step locals ps i _ l w.in-Some.ensures ∙ ap (λ x. x ++ rest) (no_locals (node_tree w.in-Some.item) (sym w.exports_own_names.ensures ∙ w.if-exports_own_names.false))
      | in_default w ↦ c.loop-index.invariant ∙ drop-step locals ps i _ l w.in_default.ensures
    ]

pub returns : goal.returns
returns c = c.loop-index.invariant ∙ drop-past locals (parts_of (node_tree c.args.program)) c.loop-index.index (subst (λ n. n ≤ c.loop-index.index) c.part_count-index-end.ensures c.loop-index-test.false)
