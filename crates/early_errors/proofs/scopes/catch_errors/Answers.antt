use Rattle.std.proofs.Common.{true, ◌++◌, option_map, ap, ◌∙◌}
use Rattle.tree.specs.Node.{node_tree}
use Rattle.tree.specs.Tree.{parts_of}
use Rattle.early_errors.specs.declared.EarlyError.TheVariants.{CatchParameterConflict}
use Rattle.early_errors.specs.Early.{each}
use Rattle.name_tables.specs.BoundNames.{each_part}
use Rattle.early_errors.specs.Names.{lexical_names, places, shared}
use Rattle.early_errors.specs.Owns.{items_at}
use Rattle.early_errors.specs.Walk.{after, all_named}
use Rattle.early_errors.proofs.FunctionLists.{body-whole}
use Rattle.name_tables.proofs.Results.{if_ok}
use Rattle.early_errors.proofs.scopes.catch_errors.Goals as goal

pub returns : goal.returns
returns c =
    let lexical = ap all_named c.as_slice.ensures.value ∙ c.in_ok-push_body.ensures ∙ ap (λ l. all_named l ++ each_part (lexical_names true) (items_at (option_map node_tree c.body_of.result))) c.new-lexical.ensures.items
    ∙ ap (each_part (lexical_names true)) (body-whole (parts_of (node_tree c.args.node)) (option_map node_tree c.body_of.result) c.body_of.ensures)
    in
    if_ok c.shared.result _ _ (λ r h. h ∙ (λ i. after (c.in_ok-found.ensures i) (each CatchParameterConflict (places (shared (all_named c.args.names.now) (lexical i)))))) c.shared.ensures
