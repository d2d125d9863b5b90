use Rattle.std.proofs.Common.{[], ◌∷◌, ap, subst}
use Rattle.tokens.specs.Reading.{behind}
use Rattle.tokens.specs.Scanned.{Passed}
use Rattle.regular_expressions.specs.Terms.{most, least}
use Rattle.regular_expressions.proofs.Productions.{passed_through}
use Rattle.regular_expressions.proofs.count.least.Goals as goal

pub returns-then-comma-eq44-clause-some : goal.returns-then-comma-eq44-clause-some
returns-then-comma-eq44-clause-some c =
    let text = c.args.text.now in
    let low = c.args.low.now in
    let p = subst (λ x. Passed text c.args.at c.in-Some.comma.end (x ∷ [])) c.if-comma-eq44.true c.in-Some.ensures.some in
    passed_through (least low (behind text c.args.at)) (most low (behind text c.in-Some.comma.end)) text c.args.at c.in-Some.comma.end (0x2C ∷ []) c.most.result p (ap (least low) p.split) c.most.ensures.some
