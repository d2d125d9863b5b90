use Rattle.std.proofs.Common.{[], ◌∷◌, sym, ap, ◌∙◌}
use Rattle.std.proofs.Common.{refl}
use Rattle.std.specs.Prelude.{◌&&◌}
use Rattle.language.specs.Vocabulary.{is}
use Rattle.tree.specs.Node.{node_tree}
use Rattle.early_errors.specs.declared.EarlyError.TheVariants.{ArgumentsInInit}
use Rattle.early_errors.specs.declared.own.OwnErrors.TheVariants as own
use Rattle.early_errors.specs.Names.{when}
use Rattle.early_errors.specs.Early.{each}
use Rattle.early_errors.specs.Owns.{round}
use Rattle.early_errors.specs.Walk.{after}
use Rattle.early_errors.proofs.OwnErrorsByKind.{small_given}
use Rattle.early_errors.proofs.fields.name_errors.Goals as goal

pub returns : goal.returns
returns c = λ r.
    c.with_error_if.ensures ∙ (λ i. after c.args.found (each ArgumentsInInit (when ((c.both.ensures ∙ (λ j. (c.both-refers.ensures ∙ refl) j && (c.eq.ensures ∙ ap (λ w. is w "arguments") c.text.ensures) j)) i) (c.span.ensures.starts i ∷ []))))
    ∙ sym (ap (after c.args.found) (small_given own.Name (round c.args.around r) (node_tree c.args.node) c.requires))
