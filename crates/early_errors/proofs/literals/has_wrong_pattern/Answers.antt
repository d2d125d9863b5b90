use Rattle.std.proofs.Common.{sym, ap, ◌∙◌}
use Rattle.std.specs.Prelude.{◌&&◌, is_some}
use Rattle.language.specs.Strings.{points}
use Rattle.early_errors.specs.Literals.{has_pattern_fault}
use Rattle.regular_expressions.specs.Patterns.{first_fault}
use Rattle.early_errors.proofs.Points.{points_are_chars}
use Rattle.early_errors.proofs.literals.has_wrong_pattern.Goals as goal

pub returns : goal.returns
unfolding has_pattern_fault
returns c =
    let text = c.args.text.now in
    c.is_some.ensures ∙ ap is_some (c.in_ok-fault.ensures ∙ ap first_fault (sym (points_are_chars text)))
    ∙ (λ i. sym c.if-not-is_2022.false i && (sym (sym c.begins_with_slash.ensures ∙ c.if-not-begins_with_slash.false) i && is_some (first_fault (points text))))
