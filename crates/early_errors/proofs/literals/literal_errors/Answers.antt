use Rattle.std.proofs.Common.{List, [], ◌∷◌, not, sym, ap, ◌∙◌}
use Rattle.std.specs.Prelude.{◌&&◌}
use Rattle.tree.specs.Node.{node_tree}
use Rattle.tree.specs.Tree.{start_of, text_of}
use Rattle.language.specs.Vocabulary.{literal_class}
use Rattle.early_errors.specs.declared.EarlyError.TheVariants.{RegExpFlags, RegExpPattern}
use Rattle.early_errors.specs.declared.own.OwnErrors.TheVariants.{Literal}
use Rattle.early_errors.specs.Names.{when}
use Rattle.early_errors.specs.Literals.{good_flags_in, has_pattern_fault, is_reg_exp}
use Rattle.early_errors.specs.Early.{Error, each}
use Rattle.early_errors.specs.Walk.{after}
use Rattle.early_errors.proofs.Least.{after-append}
use Rattle.early_errors.proofs.OwnErrorsByKind.{small_given}
use Rattle.early_errors.proofs.literals.literal_errors.Goals as goal

pub returns : goal.returns
returns c = λ z l.
    let t = node_tree c.args.node in
    let flags : List Error = each RegExpFlags (when (not (good_flags_in z.of_2022 (text_of t))) (start_of t ∷ [])) in
    let pattern : List Error = each RegExpPattern (when (z.of_2022 && (is_reg_exp (literal_class (text_of t)) && has_pattern_fault (text_of t))) (start_of t ∷ [])) in
    c.with_error_if.ensures
    ∙ (λ i. after (c.with_error_if-found.ensures i)
    (each RegExpPattern (when ((c.in_ok-is_wrong.ensures ∙ (λ j. sym l j && (is_reg_exp (literal_class (c.text-text.ensures j)) && has_pattern_fault (c.text-text.ensures j)))) i) (c.span-start.ensures.starts i ∷ []))))
    ∙ (λ i. after (after c.args.found (each RegExpFlags (when (not ((c.has_good_flags.ensures ∙ (λ j. good_flags_in (sym l j) (c.text-text.ensures j))) i)) (c.span-start.ensures.starts i ∷ [])))) pattern)
    ∙ sym (ap (after c.args.found) (small_given Literal z t c.requires) ∙ after-append c.args.found flags pattern)
