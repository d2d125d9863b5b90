use Rattle.std.proofs.Common.{◌≡◌, false, sym, subst, arith, IfSome}
use Rattle.std.proofs.lemmas.Bool.Decides.{nat_tests}
use Rattle.tokens.specs.Reading.{behind}
use Rattle.regular_expressions.specs.Terms.{piece}
use Rattle.regular_expressions.specs.Scanned.{IsRead, piece_as}
use Rattle.regular_expressions.proofs.TermSteps.{is_special, plain_read}
use Rattle.regular_expressions.proofs.term.piece_at.Goals as goal
use Rattle.regular_expressions.proofs.term.piece_at.Goals.{in_default-via-then-first-lt40, in_default-via-else-first-lt40+else-first-lt44}

pub returns-in_default-clause-some : goal.returns-in_default-clause-some
returns-in_default-clause-some c =
    let text = c.args.text.now in
    let u = c.args.is_unicode in
    let d = c.args.first.c in
    let end = c.args.first.end in
    let e : is_special d ≡ false = elim c.in_default.branch [
      | in_default-via-then-first-lt40 w ↦ grind (arith, nat_tests)
      | in_default-via-else-first-lt40+else-first-lt44 w ↦ grind (arith, nat_tests)
    ] in
    subst (λ o. IfSome o (λ r. IsRead (piece u d (behind text end)) (piece_as r.piece) text end r.end)) (sym c.ending-in_default.ensures.some) (plain_read u text end d c.requires e)
