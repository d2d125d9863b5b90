use Rattle.std.proofs.Common.{◌++◌, option_map, sym, ap, ◌∙◌}
use Rattle.tree.specs.Node.{node_tree}
use Rattle.early_errors.specs.Names.{function_names}
use Rattle.name_tables.specs.PatternParts.{at_part}
use Rattle.early_errors.specs.Walk.{all_named, names_at}
use Rattle.early_errors.proofs.Bindings.{function_given}
use Rattle.name_tables.proofs.Results.{on_ok}
use Rattle.early_errors.proofs.scopes.push_function.Goals as goal

pub returns-then-is_function : goal.returns-then-is_function
returns-then-is_function c =
    on_ok c.push_part_names.result
    (λ h. h ∙ ap (λ o. all_named c.args.names.now.items ++ names_at o) c.part.ensures
    ∙ ap (λ l. all_named c.args.names.now.items ++ l) (function_given (node_tree c.in-Some.item) c.kind.result c.is_function.result c.kind.ensures c.is_function.ensures c.if-is_function.true)
    ∙ ap (λ o. all_named c.args.names.now.items ++ at_part function_names (option_map node_tree o)) (sym c.in-Some.is))
    c.push_part_names.ensures
