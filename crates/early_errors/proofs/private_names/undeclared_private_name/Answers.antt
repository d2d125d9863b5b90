use Rattle.std.proofs.Common.{[], ◌∷◌, not, sym, ap, ◌∙◌}
use Rattle.std.proofs.Common.{is_some}
use Rattle.tree.specs.Tree.{text_of}
use Rattle.early_errors.specs.Walk.{look}
use Rattle.early_errors.proofs.Privates.{none_is}
use Rattle.tree.specs.Node.{node_tree}
use Rattle.early_errors.specs.declared.EarlyError.TheVariants.{UndeclaredPrivateName}
use Rattle.early_errors.specs.declared.own.OwnErrors.TheVariants as own
use Rattle.early_errors.specs.Names.{when}
use Rattle.early_errors.specs.Early.{each}
use Rattle.early_errors.specs.Walk.{after}
use Rattle.early_errors.proofs.OwnErrorsByKind.{small_given}
use Rattle.early_errors.proofs.private_names.undeclared_private_name.Goals as goal

pub returns : goal.returns
returns c = λ z h.
    c.with_error_if.ensures ∙ (λ i. after c.args.found (each UndeclaredPrivateName (when ((none_is _ c.is_none.result c.is_none.ensures ∙ (λ j. not ((ap is_some c.value.ensures ∙ ap (λ w. is_some (look c.args.privates.now w)) c.text.ensures ∙ h (text_of (node_tree c.args.node))) j))) i) (c.span.ensures.starts i ∷ []))))
    ∙ sym (ap (after c.args.found) (small_given own.PrivateName z (node_tree c.args.node) c.requires))
