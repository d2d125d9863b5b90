use Rattle.std.proofs.Common.{◌++◌, append-nil, option_map, sym, ap, ◌∙◌}
use Rattle.tree.specs.Node.{node_tree}
use Rattle.name_tables.specs.PatternParts.{at_part}
use Rattle.early_errors.specs.ExportsRead.{all_exported, module_names_at}
use Rattle.early_errors.specs.Modules.{exported_names}
use Rattle.name_tables.proofs.Results.{on_ok}
use Rattle.early_errors.proofs.Exports.{all_exports, default_exports}
use Rattle.early_errors.proofs.exported_names.push_exported.Goals as goal

pub returns-in-ExportDefaultDeclaration : goal.returns-in-ExportDefaultDeclaration
returns-in-ExportDefaultDeclaration c =
    let old = all_exported c.args.names.now.items in
    on_ok c.push_name.result (λ h. h ∙ ap (λ l. old ++ l) (default_exports (node_tree c.in-Some.item) c.span.result.start (sym c.kind.ensures ∙ c.in-ExportDefaultDeclaration.is) c.span.ensures.starts)
    ∙ ap (λ o. old ++ at_part exported_names (option_map node_tree o)) (sym c.in-Some.is)) c.push_name.ensures

pub returns-in-ExportAllDeclaration : goal.returns-in-ExportAllDeclaration
returns-in-ExportAllDeclaration c =
    let old = all_exported c.args.names.now.items in
    on_ok c.push_module_name.result (λ h. h ∙ ap (λ o. old ++ module_names_at o) c.part-in-ExportAllDeclaration.ensures ∙ ap (λ l. old ++ l) (all_exports (node_tree c.in-Some.item) (sym c.kind.ensures ∙ c.in-ExportAllDeclaration.is))
    ∙ ap (λ o. old ++ at_part exported_names (option_map node_tree o)) (sym c.in-Some.is)) c.push_module_name.ensures

pub returns-in_default : goal.returns-in_default
returns-in_default c = sym (append-nil (all_exported c.args.names.now.items)) ∙ ap (λ o. all_exported c.args.names.now.items ++ at_part exported_names (option_map node_tree o)) (sym c.in_default.is)
