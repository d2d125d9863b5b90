use Rattle.std.proofs.Common.{◌++◌, sym, ap, ◌∙◌}
use Rattle.tree.specs.Node.{node_tree}
use Rattle.early_errors.specs.Walk.{all_named, names_at}
use Rattle.name_tables.proofs.Results.{on_ok}
use Rattle.early_errors.proofs.Exports.{other_names, variable_names}
use Rattle.early_errors.proofs.exported_names.push_own_names.Goals as goal

pub returns-in-VariableDeclaration : goal.returns-in-VariableDeclaration
returns-in-VariableDeclaration c =
    let old = all_named c.args.declared.now.items in
    on_ok c.push_declared.result (λ h. h ∙ ap (λ l. old ++ l) (variable_names (node_tree c.args.declaration) (sym c.kind.ensures ∙ c.in-VariableDeclaration.is))) c.push_declared.ensures

pub returns-in_default : goal.returns-in_default
returns-in_default c =
    let old = all_named c.args.declared.now.items in
    on_ok c.push_part_names.result (λ h. h ∙ ap (λ o. old ++ names_at o) c.part.ensures ∙ ap (λ l. old ++ l) (other_names (node_tree c.args.declaration) (λ e. c.in_default.not-VariableDeclaration (c.kind.ensures ∙ e)))) c.push_part_names.ensures
