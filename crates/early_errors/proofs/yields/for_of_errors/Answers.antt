use Rattle.std.proofs.Common.{[], ◌∷◌, not, ap, ◌∙◌}
use Rattle.std.specs.Prelude.{◌&&◌}
use Rattle.tree.specs.Uses.{is_async}
use Rattle.tree.specs.Node.{node_tree}
use Rattle.early_errors.specs.declared.EarlyError.TheVariants.{AwaitOutsideAsync, ForAsyncOf}
use Rattle.early_errors.specs.Names.{when}
use Rattle.early_errors.specs.Yields.{for_async_of}
use Rattle.early_errors.specs.Early.{each}
use Rattle.early_errors.specs.Owns.{async_places, round}
use Rattle.early_errors.specs.Walk.{after}
use Rattle.early_errors.proofs.ForOfs.{async_given, await_given}
use Rattle.early_errors.proofs.yields.for_of_errors.Goals as goal

pub returns : goal.returns
returns c = λ r e.
    let t = node_tree c.args.node in
    let z = round c.args.around r in
    let form = c.is_async-awaits.ensures ∙ ap (λ g. is_async g.form) c.flags.ensures in
    c.async_error.ensures ∙ (λ i. after (c.with_error_if-found.ensures i) (each ForAsyncOf (when c.both-2.result (async_places (c.part.ensures i)))))
    ∙ ap (after (after c.args.found (each AwaitOutsideAsync (when c.both.result (c.span.result.start ∷ []))))) (async_given z t c.both-2.result c.requires (c.both-2.ensures ∙ (λ i. not (form i) && e i)))
    ∙ ap (λ l. after (after c.args.found l) (each ForAsyncOf (for_async_of z t))) (await_given z t c.both.result c.span.result.start c.requires (c.both.ensures ∙ (λ i. form i && not (c.is_async.ensures i))) c.span.ensures.starts)
