use Rattle.std.proofs.Common.{sym, ap, ◌∙◌, ◌++◌, option_map}
use Rattle.tree.specs.Node.{node_tree}
use Rattle.tree.specs.Tree.{parts_of}
use Rattle.name_tables.specs.BoundNames.{bound_names}
use Rattle.name_tables.specs.DeclaredNames.{specifier_names}
use Rattle.name_tables.specs.PatternParts.{all_bound, at_part, bound_as}
use Rattle.name_tables.proofs.Patterns.{last_bound_names-at}
use Rattle.name_tables.proofs.Results.{on_ok}
use Rattle.name_tables.proofs.declared.push_specifier.Goals as goal

pub returns-in-Some : goal.returns-in-Some
returns-in-Some t c =
    let old = all_bound c.args.names.now.items in
    let ps = parts_of (node_tree c.in-Some.specifier) in
    on_ok c.push_part_names.result
    (λ h. h ∙ ap (λ o. old ++ at_part (bound_names (bound_as c.args.how)) o) c.last_part.ensures ∙ ap (λ l. old ++ l) (sym (last_bound_names-at (bound_as c.args.how) ps))
    ∙ ap (λ o. old ++ at_part (specifier_names (bound_as c.args.how)) (option_map node_tree o)) (sym c.in-Some.is))
    c.push_part_names.ensures
