use Rattle.std.proofs.Common.{Some, [], ◌∷◌, ap, subst}
use Rattle.tokens.specs.Reading.{behind}
use Rattle.tokens.specs.Scanned.{Passed}
use Rattle.regular_expressions.specs.Classes.{class, class_behind, fresh}
use Rattle.regular_expressions.proofs.Productions.{passed_through}
use Rattle.regular_expressions.proofs.class.class_end.Goals as goal

pub returns-then-first-eq94-clause-some : goal.returns-then-first-eq94-clause-some
returns-then-first-eq94-clause-some c =
    let text = c.args.text.now in
    let u = c.args.is_unicode in
    let end = c.in-Some.first.end in
    let p = subst (λ x. Passed text c.args.at end (x ∷ [])) c.if-first-eq94.true c.in-Some.ensures.some in
    passed_through (class u (behind text c.args.at)) (class_behind u (Some fresh) 0 (behind text end)) text c.args.at end (0x5E ∷ []) c.ranges_end.result p (ap (class u) p.split) c.ranges_end.ensures.some
