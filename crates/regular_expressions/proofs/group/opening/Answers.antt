use Rattle.std.proofs.Common.{[], ◌∷◌, ap, subst}
use Rattle.tokens.specs.Reading.{behind}
use Rattle.tokens.specs.Scanned.{Passed}
use Rattle.tokens.proofs.PassedCharacters.{some_gives}
use Rattle.regular_expressions.specs.Terms.{behind_question, opening}
use Rattle.regular_expressions.specs.Scanned.{IsRead, piece_as}
use Rattle.regular_expressions.proofs.Productions.{read_behind}
use Rattle.regular_expressions.proofs.group.opening.Goals as goal

pub returns-then-first-eq63-clause-some : goal.returns-then-first-eq63-clause-some
returns-then-first-eq63-clause-some c =
    let text = c.args.text.now in
    let end = c.in-Some.first.end in
    let p = subst (λ x. Passed text c.args.at end (x ∷ [])) c.if-first-eq63.true c.in-Some.ensures.some in
    some_gives (λ r. IsRead (behind_question (behind text end)) (piece_as r.piece) text end r.end)
    (λ r. IsRead (opening (behind text c.args.at)) (piece_as r.piece) text c.args.at r.end) c.behind_question.result
    (λ r h. read_behind (opening (behind text c.args.at)) (behind_question (behind text end)) (piece_as r.piece) text c.args.at end r.end 0x3F p (ap opening p.split) h)
    c.behind_question.ensures.some
