use Rattle.std.proofs.Common.{sym, ap, ◌∙◌, ◌++◌, option_map}
use Rattle.tree.specs.Node.{node_tree}
use Rattle.tree.specs.Tree.{parts_of}
use Rattle.name_tables.specs.BoundNames.{bound_names}
use Rattle.name_tables.specs.DeclaratorParts.{declarator_as, named_by}
use Rattle.name_tables.specs.PatternParts.{all_bound, at_part, bound_as}
use Rattle.name_tables.proofs.Patterns.{first_bound_names-at}
use Rattle.name_tables.proofs.Results.{on_ok}
use Rattle.name_tables.proofs.declared.push_declarator.Goals as goal

pub returns-in-Some : goal.returns-in-Some
returns-in-Some t c =
    let old = all_bound c.args.names.now.items in
    let ps = parts_of (node_tree c.in-Some.declarator) in
    on_ok c.push_part_names.result
    (λ h. h ∙ (λ i. old ++ at_part (bound_names (bound_as (c.bound_how.ensures i))) (c.part.ensures i)) ∙ ap (λ l. old ++ l) (sym (first_bound_names-at (declarator_as c.args.how ps) ps))
    ∙ ap (λ o. old ++ at_part (named_by (declarator_as c.args.how)) (option_map node_tree o)) (sym c.in-Some.is))
    c.push_part_names.ensures
