use Rattle.std.proofs.Common.{[], ◌∷◌, subst}
use Rattle.tokens.specs.Scanned.{Passed}
use Rattle.regular_expressions.specs.Scanned.{spelled}
use Rattle.regular_expressions.proofs.TermSteps.{referred}
use Rattle.regular_expressions.proofs.term.name_reference.Goals as goal

pub returns-clause-some : goal.returns-clause-some
returns-clause-some c = λ u.
    referred c.args.text.now c.args.at c.in-Some.open.end c.in-Some-group_name.name.end (spelled c.in-Some-group_name.name.word.now)
    (subst (λ x. Passed c.args.text.now c.args.at c.in-Some.open.end (x ∷ [])) c.if-open-ne60.false c.in-Some.ensures.some) c.in-Some-group_name.ensures.some
