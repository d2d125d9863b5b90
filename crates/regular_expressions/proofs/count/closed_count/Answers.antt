use Rattle.std.proofs.Common.{[], ◌∷◌, subst}
use Rattle.tokens.specs.Scanned.{Passed}
use Rattle.regular_expressions.proofs.Productions.{closed_some}
use Rattle.regular_expressions.proofs.count.closed_count.Goals as goal

pub returns-then-is_good-clause-some : goal.returns-then-is_good-clause-some
returns-then-is_good-clause-some c =
    closed_some c.args.text.now c.args.at c.in-Some.close.end c.lazy_end.result c.args.is_good
    (subst (λ x. Passed c.args.text.now c.args.at c.in-Some.close.end (x ∷ [])) c.if-close-ne125.false c.in-Some.ensures.some) c.if-is_good.true c.lazy_end.ensures
