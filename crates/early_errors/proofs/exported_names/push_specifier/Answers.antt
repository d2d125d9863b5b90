use Rattle.std.proofs.Common.{◌++◌, append-nil, option_map, sym, ap, ◌∙◌}
use Rattle.tree.specs.Node.{node_tree}
use Rattle.name_tables.specs.PatternParts.{at_part}
use Rattle.early_errors.specs.ExportsRead.{all_exported, module_names_at}
use Rattle.early_errors.specs.Modules.{specifier_name}
use Rattle.name_tables.proofs.Results.{on_ok}
use Rattle.early_errors.proofs.Exports.{specifier_given}
use Rattle.early_errors.proofs.exported_names.push_specifier.Goals as goal

pub returns-in-ExportSpecifier : goal.returns-in-ExportSpecifier
returns-in-ExportSpecifier c =
    let old = all_exported c.args.names.now.items in
    on_ok c.push_module_name.result
    (λ h. h ∙ ap (λ o. old ++ module_names_at o) c.last_part.ensures ∙ ap (λ l. old ++ l) (specifier_given (node_tree c.in-Some.specifier) (sym c.kind.ensures ∙ c.in-ExportSpecifier.is))
    ∙ ap (λ o. old ++ at_part specifier_name (option_map node_tree o)) (sym c.in-Some.is))
    c.push_module_name.ensures

pub returns-in_default : goal.returns-in_default
returns-in_default c = sym (append-nil (all_exported c.args.names.now.items)) ∙ ap (λ o. all_exported c.args.names.now.items ++ at_part specifier_name (option_map node_tree o)) (sym c.in_default.is)
