use Rattle.std.proofs.Common.{List, [], ◌∷◌, not, sym, ap, ◌∙◌}
use Rattle.std.specs.Prelude.{◌&&◌}
use Rattle.tree.specs.Node.{node_tree}
use Rattle.tree.specs.Tree.{text_of, start_of, parts_of}
use Rattle.language.specs.Vocabulary.{is}
use Rattle.early_errors.specs.Classes.{has_key}
use Rattle.early_errors.specs.declared.EarlyError.TheVariants.{NewTargetOutsideFunction, ImportMetaOutsideModule}
use Rattle.early_errors.specs.declared.own.OwnErrors.TheVariants.{Target}
use Rattle.early_errors.specs.Names.{when}
use Rattle.early_errors.specs.Early.{Error, each}
use Rattle.early_errors.specs.Owns.{round}
use Rattle.early_errors.specs.Walk.{after}
use Rattle.early_errors.proofs.Least.{after-append}
use Rattle.early_errors.proofs.OwnErrorsByKind.{small_given}
use Rattle.early_errors.proofs.classes.target_errors.Goals as goal

pub returns : goal.returns
returns c = λ r m.
    let t = node_tree c.args.node in
    let targets : List Error = each NewTargetOutsideFunction (when (has_key (parts_of t) (λ n. is (text_of n) "new") && not c.args.around.new_target) (start_of t ∷ [])) in
    let metas : List Error = each ImportMetaOutsideModule (when (has_key (parts_of t) (λ n. is (text_of n) "import") && not r.in_module) (start_of t ∷ [])) in
    c.with_error_if.ensures
    ∙ (λ i. after (c.with_error_if-found.ensures i) (each ImportMetaOutsideModule (when ((c.both-2.ensures ∙ (λ j. c.begins_with-2.ensures j && not (m j))) i) (c.span-start.ensures.starts i ∷ []))))
    ∙ (λ i. after (after c.args.found (each NewTargetOutsideFunction (when ((c.both.ensures ∙ ap (λ b. b && not c.args.around.new_target) c.begins_with.ensures) i) (c.span-start.ensures.starts i ∷ [])))) metas)
    ∙ sym (ap (after c.args.found) (small_given Target (round c.args.around r) t c.requires) ∙ after-append c.args.found targets metas)
