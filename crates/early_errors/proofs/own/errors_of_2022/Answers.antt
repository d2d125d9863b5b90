use Rattle.std.proofs.Common.{refl, sym, ap, ◌∙◌}
use Rattle.tree.specs.Node.{node_tree}
use Rattle.early_errors.specs.declared.own.OwnErrors.TheVariants as own
use Rattle.early_errors.specs.Owns.{nameless, round}
use Rattle.early_errors.specs.Walk.{after}
use Rattle.name_tables.proofs.Results.{if_ok}
use Rattle.tree.specs.Tree.{parts_of}
use Rattle.early_errors.specs.declared.EarlyError.TheVariants.{DuplicateExport, UndeclaredExport}
use Rattle.early_errors.specs.Modules.{duplicate_export, undeclared_export}
use Rattle.early_errors.specs.Early.{each}
use Rattle.early_errors.proofs.Exports.{lone_first, lone_of, lone_whole}
use Rattle.early_errors.proofs.Least.{after-append}
use Rattle.early_errors.proofs.OwnErrorsByKind.{later_kind, small_given}
use Rattle.early_errors.proofs.own.errors_of_2022.Goals as goal

pub returns-in-Name : goal.returns-in-Name
returns-in-Name c = λ r h. c.name_errors.ensures r ∙ ap (λ o. after c.args.found (nameless o (round c.args.surroundings.around r) (node_tree c.args.node))) (sym c.in-Name.is)

pub returns-in-PrivateName : goal.returns-in-PrivateName
returns-in-PrivateName c = λ r h. c.undeclared_private_name.ensures (round c.args.surroundings.around r) h.private ∙ ap (λ o. after c.args.found (nameless o (round c.args.surroundings.around r) (node_tree c.args.node))) (sym c.in-PrivateName.is)

pub returns-in-Yield : goal.returns-in-Yield
returns-in-Yield c = λ r h. c.yield_errors.ensures r ∙ ap (λ o. after c.args.found (nameless o (round c.args.surroundings.around r) (node_tree c.args.node))) (sym c.in-Yield.is)

pub returns-in-Await : goal.returns-in-Await
returns-in-Await c = λ r h. c.await_errors.ensures r ∙ ap (λ o. after c.args.found (nameless o (round c.args.surroundings.around r) (node_tree c.args.node))) (sym c.in-Await.is)

pub returns-in-Field : goal.returns-in-Field
returns-in-Field c = λ r h. c.field_errors.ensures (round c.args.surroundings.around r) ∙ ap (λ o. after c.args.found (nameless o (round c.args.surroundings.around r) (node_tree c.args.node))) (sym c.in-Field.is)

pub returns-in-Import : goal.returns-in-Import
returns-in-Import c = if_ok c.import_errors.result _ _ (λ e x r h. x (round c.args.surroundings.around r) ∙ ap (λ o. after c.args.found (nameless o (round c.args.surroundings.around r) (node_tree c.args.node))) (sym c.in-Import.is)) c.import_errors.ensures

pub returns-in-ModuleNames : goal.returns-in-ModuleNames
returns-in-ModuleNames c =
    let t = node_tree c.args.node in
    if_ok c.lone_surrogates.result _ _
    (λ e x r h. x ∙ ap (λ l. after c.args.found (lone_of l)) (lone_whole (parts_of t) c.part_count.result c.part_count.ensures)
    ∙ sym (ap (after c.args.found) (small_given own.ModuleNames (round c.args.surroundings.around r) t (later_kind t (sym c.requires ∙ c.in-ModuleNames.is) refl)))
    ∙ ap (λ o. after c.args.found (nameless o (round c.args.surroundings.around r) (node_tree c.args.node))) (sym c.in-ModuleNames.is))
    c.lone_surrogates.ensures

pub returns-in-ExportAll : goal.returns-in-ExportAll
returns-in-ExportAll c =
    let t = node_tree c.args.node in
    if_ok c.lone_surrogates-in-ExportAll.result _ _
    (λ e x r h. x ∙ ap (λ l. after c.args.found (lone_of l)) (lone_first (parts_of t))
    ∙ sym (ap (after c.args.found) (small_given own.ExportAll (round c.args.surroundings.around r) t (later_kind t (sym c.requires ∙ c.in-ExportAll.is) refl)))
    ∙ ap (λ o. after c.args.found (nameless o (round c.args.surroundings.around r) (node_tree c.args.node))) (sym c.in-ExportAll.is))
    c.lone_surrogates-in-ExportAll.ensures

pub returns-in-Export : goal.returns-in-Export
returns-in-Export c = λ r h. c.export_errors.ensures (round c.args.surroundings.around r) ∙ ap (λ o. after c.args.found (nameless o (round c.args.surroundings.around r) (node_tree c.args.node))) (sym c.in-Export.is)

pub returns-in-Exports : goal.returns-in-Exports
returns-in-Exports c =
    let t = node_tree c.args.node in
    if_ok c.exports_errors.result _ _
    (λ e x r h. x ∙ sym (after-append c.args.found (each DuplicateExport (duplicate_export t)) (each UndeclaredExport (undeclared_export t))) ∙ ap (λ o. after c.args.found (nameless o (round c.args.surroundings.around r) (node_tree c.args.node))) (sym c.in-Exports.is))
    c.exports_errors.ensures

pub returns-in-Object : goal.returns-in-Object
returns-in-Object c = λ r h. c.object_errors.ensures (round c.args.surroundings.around r) (sym h.of_2022) ∙ ap (λ o. after c.args.found (nameless o (round c.args.surroundings.around r) (node_tree c.args.node))) (sym c.in-Object.is)
