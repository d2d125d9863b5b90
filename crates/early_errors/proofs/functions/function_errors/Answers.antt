use Rattle.std.proofs.Common.{◌++◌, option_map, ap, ◌∙◌}
use Rattle.tree.specs.Node.{node_tree}
use Rattle.tree.specs.Tree.{parts_of, parts_drop}
use Rattle.early_errors.specs.Names.{parameter_names}
use Rattle.early_errors.specs.Walk.{all_named, names_at}
use Rattle.name_tables.proofs.Results.{if_ok}
use Rattle.early_errors.proofs.FunctionErrors.{functions}
use Rattle.early_errors.proofs.functions.function_errors.Goals as goal

pub returns : goal.returns
returns c =
    let named = ap all_named c.as_slice.ensures.value ∙ c.in_ok-push_part_names.ensures ∙ ap (λ l. all_named l ++ names_at (option_map node_tree c.function_name.result)) c.clear.ensures.items in
    let bound = ap all_named c.as_slice-bound.ensures.value ∙ c.in_ok-push_parameters.ensures ∙ ap (λ l. all_named l ++ parameter_names (parts_drop c.parameter_place-from.result (parts_of (node_tree c.args.node)))) c.clear-2.ensures.items in
    if_ok c.body_errors.result _ _
    (λ r h z. functions z (node_tree c.args.node) c.kind.result c.parameter_place-from.result (option_map node_tree c.function_name.result) (option_map node_tree c.body_of_function-body.result) (all_named c.as_slice.result.now) (all_named c.as_slice-bound.result.now) c.is_simple-simple.result c.args.found c.restricted-named.result
    c.restricted-found.result c.in_ok-found.found r c.requires c.kind.ensures c.parameter_place-from.ensures c.function_name.ensures named c.restricted-named.ensures bound c.restricted-found.ensures c.in_ok-found.ensures
    c.body_of_function-body.ensures c.is_simple-simple.ensures h)
    c.body_errors.ensures
