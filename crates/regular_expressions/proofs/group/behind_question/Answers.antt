use Rattle.std.proofs.Common.{[], ◌∷◌, ap, subst}
use Rattle.tokens.specs.Reading.{behind}
use Rattle.tokens.specs.Scanned.{Passed}
use Rattle.tokens.proofs.PassedCharacters.{some_gives}
use Rattle.regular_expressions.specs.Terms.{behind_angle, behind_question}
use Rattle.regular_expressions.specs.Scanned.{IsRead, piece_as}
use Rattle.regular_expressions.proofs.Productions.{read_behind}
use Rattle.regular_expressions.proofs.group.behind_question.Goals as goal

pub returns-in-60-clause-some : goal.returns-in-60-clause-some
returns-in-60-clause-some c =
    let text = c.args.text.now in
    let end = c.in-Some.first.end in
    let p = subst (λ x. Passed text c.args.at end (x ∷ [])) c.in-60.is c.in-Some.ensures.some in
    some_gives (λ r. IsRead (behind_angle (behind text end)) (piece_as r.piece) text end r.end)
    (λ r. IsRead (behind_question (behind text c.args.at)) (piece_as r.piece) text c.args.at r.end) c.behind_angle.result
    (λ r h. read_behind (behind_question (behind text c.args.at)) (behind_angle (behind text end)) (piece_as r.piece) text c.args.at end r.end 0x3C p (ap behind_question p.split) h)
    c.behind_angle.ensures.some
