use Rattle.std.proofs.Common.{◌++◌, ap, ◌∙◌}
use Rattle.std.specs.Prelude.{map}
use Rattle.tree.specs.Node.{node_tree}
use Rattle.early_errors.specs.ExportsRead.{all_exported, own_names}
use Rattle.early_errors.specs.Modules.{in_units}
use Rattle.early_errors.specs.Walk.{all_named}
use Rattle.name_tables.proofs.Results.{on_ok}
use Rattle.early_errors.proofs.Exports.{declaration_given}
use Rattle.early_errors.proofs.exported_names.push_names_of.Goals as goal

pub returns : goal.returns
returns c =
    let t = node_tree c.args.declaration in
    let old = all_exported c.args.names.now.items in
    let names = ap all_named c.as_slice.ensures.value ∙ c.in_ok-push_own_names.ensures ∙ ap (λ l. all_named l ++ own_names t) c.requires in
    on_ok c.push_as_exported.result (λ h. h ∙ ap (λ ns. old ++ map in_units ns) names ∙ ap (λ l. old ++ l) (declaration_given t)) c.push_as_exported.ensures
