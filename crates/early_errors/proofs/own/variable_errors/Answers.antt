use Rattle.std.proofs.Common.{◌++◌, ap, ◌∙◌}
use Rattle.tree.specs.Node.{node_tree}
use Rattle.tree.specs.Tree.{parts_of}
use Rattle.early_errors.specs.Names.{declared_names}
use Rattle.early_errors.specs.Owns.{round}
use Rattle.early_errors.specs.Walk.{all_named, look}
use Rattle.early_errors.proofs.OwnErrors.{variables_found}
use Rattle.name_tables.proofs.Results.{if_ok_both}
use Rattle.early_errors.proofs.own.variable_errors.Goals as goal

pub returns : goal.returns
returns c =
    let names = ap all_named c.as_slice-declared.ensures.value ∙ c.in_ok-push_declared.ensures ∙ ap (λ l. all_named l ++ declared_names (parts_of (node_tree c.args.node))) c.clear.ensures.items in
    if_ok_both c.declared_errors.result _ _ _
    (λ r x y ls. variables_found (round c.args.surroundings.around ls) (node_tree c.args.node) (look c.args.surroundings.vars.now) (all_named c.as_slice-declared.result.now) c.args.found c.restricted-found.result r c.requires names c.restricted-found.ensures x y)
    c.declared_errors.ensures.var c.declared_errors.ensures.lexical
