use Rattle.std.proofs.Common.{true, sym, ap, ◌∙◌}
use Rattle.tree.specs.Node.{node_tree}
use Rattle.tree.specs.Tree.{parts_of}
use Rattle.early_errors.specs.declared.EarlyError.TheVariants.{DuplicateLexicalName, LexicalNameIsVar, CatchParameterConflict}
use Rattle.name_tables.specs.BoundNames.{each_part}
use Rattle.early_errors.specs.Names.{function_names, lexical_names, body_items}
use Rattle.early_errors.specs.Owns.{doubled, clash_with, found_of_scope}
use Rattle.early_errors.specs.Walk.{after, all_named}
use Rattle.early_errors.proofs.Least.{after-append}
use Rattle.name_tables.proofs.Results.{if_ok}
use Rattle.early_errors.proofs.scopes.scope_errors.Goals as goal

pub returns-in-TopLevel : goal.returns-in-TopLevel
returns-in-TopLevel c =
    let ps = parts_of (node_tree c.args.node) in
    let ns = all_named c.args.names.now in
    if_ok c.top_errors.result _ _
    (λ r h. h ∙ sym (after-append c.args.found (doubled DuplicateLexicalName ns) (clash_with LexicalNameIsVar ns (each_part function_names ps)))
    ∙ ap (λ k. after c.args.found (found_of_scope k ps ns)) (sym c.in-TopLevel.is))
    c.top_errors.ensures

pub returns-in-Catch : goal.returns-in-Catch
returns-in-Catch c =
    let ps = parts_of (node_tree c.args.node) in
    let ns = all_named c.args.names.now in
    if_ok c.catch_errors.result _ _
    (λ r h. h ∙ sym (after-append c.args.found (doubled CatchParameterConflict ns) (clash_with CatchParameterConflict ns (each_part (lexical_names true) (body_items ps))))
    ∙ ap (λ k. after c.args.found (found_of_scope k ps ns)) (sym c.in-Catch.is))
    c.catch_errors.ensures
