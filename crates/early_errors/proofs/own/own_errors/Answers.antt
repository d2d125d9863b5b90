use Rattle.std.proofs.Common.{sym, ap, ◌∙◌}
use Rattle.tree.specs.Node.{node_tree}
use Rattle.early_errors.specs.Owns.{own_of, round, vars_of}
use Rattle.early_errors.specs.Walk.{after, hits, look, sooner}
use Rattle.early_errors.proofs.OwnErrorsByKind.{is_variables, variables_plain}
use Rattle.early_errors.proofs.OwnErrors.{function_found, named_found, nameless_found}
use Rattle.name_tables.proofs.Results.{if_ok}
use Rattle.early_errors.proofs.own.own_errors.Goals as goal

pub returns-in-Variables : goal.returns-in-Variables
returns-in-Variables c =
    let t = node_tree c.args.node in
    let kind = sym (c.own_of-own.ensures ∙ ap own_of c.kind.ensures) ∙ is_variables c.own_of-own.result (sym c.sort_of.ensures ∙ c.in-Variables.is) in
    if_ok c.variable_errors.result _ _ (λ r x ls h. x ls ∙ ap (λ l. sooner (after c.args.found l) (hits (look c.args.surroundings.vars.now) (vars_of t))) (variables_plain (round c.args.surroundings.around ls) t kind)) c.variable_errors.ensures

pub returns-in-Parameters : goal.returns-in-Parameters
returns-in-Parameters c =
    if_ok c.function_errors.result _ _
    (λ r x ls h. function_found (round c.args.surroundings.around ls) (node_tree c.args.node) (look c.args.surroundings.vars.now) c.own_of-own.result c.args.found r (c.own_of-own.ensures ∙ ap own_of c.kind.ensures) (sym c.sort_of.ensures ∙ c.in-Parameters.is) (x (round c.args.surroundings.around ls)))
    c.function_errors.ensures

pub returns-in-Named : goal.returns-in-Named
returns-in-Named c =
    if_ok c.first_name_errors.result _ _
    (λ r x ls h. named_found (round c.args.surroundings.around ls) (node_tree c.args.node) (look c.args.surroundings.vars.now) c.own_of-own.result c.args.found r (c.own_of-own.ensures ∙ ap own_of c.kind.ensures) (sym c.sort_of.ensures ∙ c.in-Named.is) (x ls h))
    c.first_name_errors.ensures

pub returns-in-Nameless : goal.returns-in-Nameless
returns-in-Nameless c =
    if_ok c.nameless_errors.result _ _
    (λ r x ls h. nameless_found (round c.args.surroundings.around ls) (node_tree c.args.node) (look c.args.surroundings.vars.now) c.own_of-own.result c.args.found r (c.own_of-own.ensures ∙ ap own_of c.kind.ensures) (sym c.sort_of.ensures ∙ c.in-Nameless.is) (x ls h))
    c.nameless_errors.ensures
