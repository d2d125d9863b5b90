use Rattle.std.proofs.Common.{[], ◌∷◌, not, sym, ap, ◌∙◌}
use Rattle.tree.specs.Node.{node_tree}
use Rattle.early_errors.specs.declared.EarlyError.TheVariants.{YieldOutsideGenerator}
use Rattle.early_errors.specs.declared.own.OwnErrors.TheVariants as own
use Rattle.early_errors.specs.Names.{when}
use Rattle.early_errors.specs.Early.{each}
use Rattle.early_errors.specs.Owns.{round}
use Rattle.early_errors.specs.Walk.{after}
use Rattle.early_errors.proofs.OwnErrorsByKind.{small_given}
use Rattle.early_errors.proofs.yields.yield_errors.Goals as goal

pub returns : goal.returns
returns c = λ r.
    c.with_error_if.ensures ∙ (λ i. after c.args.found (each YieldOutsideGenerator (when (not (c.is_generator.ensures i)) (c.span.ensures.starts i ∷ []))))
    ∙ sym (ap (after c.args.found) (small_given own.Yield (round c.args.around r) (node_tree c.args.node) c.requires))
