use Rattle.std.proofs.Common.{List, [], ◌∷◌, sym, ap, ◌∙◌}
use Rattle.std.specs.Prelude.{◌&&◌}
use Rattle.tree.specs.Node.{node_tree}
use Rattle.tree.specs.Tree.{text_of, start_of, parts_of}
use Rattle.language.specs.FirstPart.{lead}
use Rattle.language.specs.Vocabulary.{is, is_identifier}
use Rattle.early_errors.specs.declared.EarlyError.TheVariants.{DeleteOfIdentifier, DeleteOfPrivate}
use Rattle.early_errors.specs.declared.own.OwnErrors.TheVariants.{Delete}
use Rattle.early_errors.specs.Names.{when}
use Rattle.early_errors.specs.Early.{Error, each}
use Rattle.early_errors.specs.Walk.{after}
use Rattle.early_errors.specs.PrivateNames.{private_operand}
use Rattle.early_errors.proofs.Least.{after-append}
use Rattle.early_errors.proofs.OwnErrorsByKind.{small_given}
use Rattle.early_errors.proofs.own.delete_errors.Goals as goal

pub returns : goal.returns
returns c = λ z.
    let t = node_tree c.args.node in
    let names : List Error = each DeleteOfIdentifier (when (is (text_of t) "delete" && is_identifier (lead (parts_of t))) (start_of t ∷ [])) in
    let members : List Error = each DeleteOfPrivate (when (is (text_of t) "delete" && private_operand (parts_of t)) (start_of t ∷ [])) in
    c.with_error_if.ensures
    ∙ (λ i. after (c.with_error_if-found.ensures i) (each DeleteOfPrivate (when (c.deletes_private.ensures i) (c.span-start.ensures.starts i ∷ []))))
    ∙ (λ i. after (after c.args.found (each DeleteOfIdentifier (when (c.deletes_identifier.ensures i) (c.span-start.ensures.starts i ∷ [])))) members)
    ∙ sym (ap (after c.args.found) (small_given Delete z t c.requires) ∙ after-append c.args.found names members)
