use Rattle.std.proofs.Common.{◌≤◌, leb-true, subst, arith}
use Rattle.std.proofs.lemmas.Bool.Decides.{nat_tests}
use Rattle.paren_planner.proofs.PairlessSpans.{pairless_from}
use Rattle.paren_planner.proofs.text_pairs.is_pairless.Goals as goal

pub returns-in-Some : goal.returns-in-Some
returns-in-Some c = λ h ordered.
    pairless_from c.args.pairs.now c.first_from.result c.args.from c.args.end ordered (c.first_from.ensures ordered)
    (λ b d. subst (λ q. c.args.end ≤ q.left) (c.in-Some.ensures.lookup.3.1 d) (leb-true _ _ h))

pub returns-in-None : goal.returns-in-None
returns-in-None c = λ h ordered.
    pairless_from c.args.pairs.now c.first_from.result c.args.from c.args.end ordered (c.first_from.ensures ordered)
    (λ b d. let k = c.in-None.ensures.lookup in absurd (grind (arith, nat_tests)))
