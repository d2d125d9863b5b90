use Rattle.std.proofs.Common.{◌==◌, IsFalse, sym, subst}
use Rattle.std.proofs.lemmas.Bool.{ne_eqb}
use Rattle.tokens.specs.Alphabet.{begins_with}
use Rattle.tokens.proofs.EscapeParts.{line_single}
use Rattle.tokens.proofs.escape.line_continuation.Goals as goal

pub returns-else-step-eq10 : goal.returns-else-step-eq10
returns-else-step-eq10 c =
    let p = c.in-Some.ensures.some in
    line_single c.args.text.now c.args.at c.args.first c.requires.place c.requires.ends_line
    (λ e. subst (λ x. IsFalse (begins_with (λ d. d == 0xA) x)) (sym p.split) (ne_eqb c.in-Some.step.c 0xA c.if-step-eq10.false))
