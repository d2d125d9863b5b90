use Rattle.std.proofs.Common.{◌∷◌, ap, ◌∙◌}
use Rattle.tokens.specs.Escapes.{unicode_escape}
use Rattle.tokens.specs.Escaped.{IsPieceAt}
use Rattle.tokens.specs.Reading.{behind}
use Rattle.tokens.proofs.PassedCharacters.{some_gives}
use Rattle.tokens.proofs.EscapeParts.{piece_behind}
use Rattle.tokens.proofs.escape.unicode_escape.Goals as goal

pub returns-then-step-eq123-clause-some : goal.returns-then-step-eq123-clause-some
returns-then-step-eq123-clause-some c =
    let text = c.args.text.now in
    let stop = c.in-Some.step.end in
    let p = c.in-Some.ensures.some in
    let near = unicode_escape (0x7B ∷ behind text stop) in
    let wide = unicode_escape (behind text c.args.at) in
    some_gives (λ e. IsPieceAt near 2 text stop e) (λ e. IsPieceAt wide 1 text c.args.at e) c.code_point.result
    (λ e h. piece_behind wide near 1 text c.args.at stop c.in-Some.step.c e p (ap unicode_escape p.split ∙ ap (λ x. unicode_escape (x ∷ behind text stop)) c.if-step-eq123.true) h) c.code_point.ensures.some
