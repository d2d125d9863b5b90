use Rattle.std.proofs.Common.{[], ◌∷◌, not, sym, ap, ◌∙◌}
use Rattle.std.specs.Prelude.{◌&&◌}
use Rattle.tree.specs.Node.{node_tree}
use Rattle.early_errors.specs.declared.EarlyError.TheVariants.{UncookedTemplate}
use Rattle.early_errors.specs.declared.own.OwnErrors.TheVariants.{Template}
use Rattle.early_errors.specs.Names.{when}
use Rattle.early_errors.specs.Early.{each}
use Rattle.early_errors.specs.Owns.{round}
use Rattle.early_errors.specs.Walk.{after}
use Rattle.early_errors.proofs.OwnErrorsByKind.{small_given}
use Rattle.early_errors.proofs.literals.template_errors.Goals as goal

pub returns : goal.returns
returns c = λ ls.
    c.with_error_if.ensures
    ∙ (λ i. after c.args.found (each UncookedTemplate (when ((c.both.ensures ∙ ap (λ b. not c.args.around.tagged && b) c.in_ok-is_uncooked.ensures) i) (c.span.ensures.starts i ∷ []))))
    ∙ sym (ap (after c.args.found) (small_given Template (round c.args.around ls) (node_tree c.args.node) c.requires))
