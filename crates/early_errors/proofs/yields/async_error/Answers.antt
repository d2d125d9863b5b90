use Rattle.std.proofs.Common.{[], ◌∷◌, option_map, sym, ap, ◌∙◌}
use Rattle.std.specs.Prelude.{◌&&◌}
use Rattle.tree.specs.Node.{node_tree}
use Rattle.tree.specs.Tree.{start_of}
use Rattle.early_errors.specs.declared.EarlyError.TheVariants.{ForAsyncOf}
use Rattle.early_errors.specs.Names.{when}
use Rattle.early_errors.specs.Early.{each}
use Rattle.early_errors.specs.Owns.{async_places}
use Rattle.early_errors.specs.Walk.{after}
use Rattle.early_errors.proofs.ForOfs.{when_both}
use Rattle.early_errors.proofs.yields.async_error.Goals as goal

pub returns-in-Some : goal.returns-in-Some
returns-in-Some c =
    c.with_error_if.ensures ∙ (λ i. after c.args.found (each ForAsyncOf (when ((c.both.ensures ∙ ap (λ b. c.args.is_one && b) c.is_async_name.ensures) i) (c.span.ensures.starts i ∷ []))))
    ∙ ap (λ l. after c.args.found (each ForAsyncOf l)) (when_both c.args.is_one _ (start_of (node_tree c.in-Some.left) ∷ []))
    ∙ ap (λ o. after c.args.found (each ForAsyncOf (when c.args.is_one (async_places (option_map node_tree o))))) (sym c.in-Some.is)
