use Rattle.std.proofs.Common.{◌+◌, ◌<◌, ◌≤◌, subst, sym, ap, ◌∙◌}
use Rattle.tree.specs.Node.{node_tree}
use Rattle.tree.specs.Tree.{parts_of, parts_drop}
use Rattle.name_tables.specs.BoundNames.{each_part}
use Rattle.early_errors.specs.declared.EarlyError.TheVariants.{ExportOfNoName}
use Rattle.early_errors.specs.declared.own.OwnErrors.TheVariants as own
use Rattle.early_errors.specs.Modules.{is_no_name}
use Rattle.early_errors.proofs.OwnErrorsByKind.{small_given}
use Rattle.early_errors.specs.Modules.{first_tree}
use Rattle.early_errors.specs.Walk.{after}
use Rattle.early_errors.proofs.Least.{sooner-none}
use Rattle.early_errors.proofs.Exports.{first_given, first_missing, no_locals, own_locals, passing, passing-end, passing-given, passing-missing}
use Rattle.early_errors.proofs.modules.export_errors.Goals as goal
use Rattle.early_errors.proofs.modules.export_errors.Goals.{in-Some, in_default}

pub returns-then-not-exports_own_names : goal.returns-then-not-exports_own_names
returns-then-not-exports_own_names c = λ z.
    let t = node_tree c.args.export in
    sym (sooner-none c.args.found) ∙ sym (ap (after c.args.found) (small_given own.Export z t c.requires ∙ ap (passing ExportOfNoName is_no_name) (no_locals t (sym c.exports_own_names.ensures ∙ c.if-not-exports_own_names.true))))

pub loop-index-preserved : goal.loop-index-preserved
loop-index-preserved c =
    let ps = parts_of (node_tree c.args.export) in
    let i = c.loop-index.index in
    let p = is_no_name in
    let l = subst (λ n. i < n) c.part_count-index-end.ensures c.loop-index-test.true in
    let so = c.loop-index.invariant in
    elim c.match-local_of.branch [
      | in-Some w ↦
          ap (λ q. after q (passing ExportOfNoName p (each_part first_tree (parts_drop (i + 1) ps)))) w.found-is
          ∙ passing-given ExportOfNoName p first_tree ps i _ l c.part.ensures c.loop-index.found _ so (node_tree w.in-Some.local) w.is_no_name-is_wrong.result w.span.result.start w.with_error_if-found.result (first_given _ (node_tree w.in-Some.local) w.in-Some.ensures)
          w.is_no_name-is_wrong.ensures w.span.ensures.starts w.with_error_if-found.ensures
      | in_default w ↦
          ap (λ q. after q (passing ExportOfNoName p (each_part first_tree (parts_drop (i + 1) ps)))) w.found-is
          ∙ passing-missing ExportOfNoName p first_tree ps i _ l c.part.ensures c.loop-index.found _ so (first_missing _ w.in_default.ensures)
    ]

pub returns : goal.returns
returns c = λ z.
    let t = node_tree c.args.export in
    passing-end ExportOfNoName is_no_name first_tree (parts_of t) c.loop-index.index c.loop-index.found _ (subst (λ n. n ≤ c.loop-index.index) c.part_count-index-end.ensures c.loop-index-test.false) c.loop-index.invariant
    ∙ sym (ap (after c.args.found) (small_given own.Export z t c.requires ∙ ap (passing ExportOfNoName is_no_name) (own_locals t (sym c.exports_own_names.ensures ∙ c.if-not-exports_own_names.false))))
