use Rattle.std.proofs.Common.{◌∷◌, ap, ◌∙◌}
use Rattle.tokens.specs.Escapes.{fixed_escape, unicode_escape, escape}
use Rattle.tokens.specs.Escaped.{IsPieceAt}
use Rattle.tokens.specs.Reading.{behind}
use Rattle.tokens.proofs.PassedCharacters.{some_gives}
use Rattle.tokens.proofs.EscapeParts.{piece_behind}
use Rattle.tokens.proofs.escape.escape.Goals as goal

pub returns-in-x-clause-some : goal.returns-in-x-clause-some
returns-in-x-clause-some c =
    let text = c.args.text.now in
    let stop = c.in-Some.step.end in
    let p = c.in-Some.ensures.some in
    let near = fixed_escape 2 (behind text stop) in
    let wide = escape (behind text c.args.at) in
    some_gives (λ e. IsPieceAt near 1 text stop e) (λ e. IsPieceAt wide 0 text c.args.at e) c.fixed_digits.result
    (λ e h. piece_behind wide near 0 text c.args.at stop c.in-Some.step.c e p (ap escape p.split ∙ ap (λ x. escape (x ∷ behind text stop)) c.in-x.is) h) c.fixed_digits.ensures.some

pub returns-in-u-clause-some : goal.returns-in-u-clause-some
returns-in-u-clause-some c =
    let text = c.args.text.now in
    let stop = c.in-Some.step.end in
    let p = c.in-Some.ensures.some in
    let near = unicode_escape (behind text stop) in
    let wide = escape (behind text c.args.at) in
    some_gives (λ e. IsPieceAt near 1 text stop e) (λ e. IsPieceAt wide 0 text c.args.at e) c.unicode_escape.result
    (λ e h. piece_behind wide near 0 text c.args.at stop c.in-Some.step.c e p (ap escape p.split ∙ ap (λ x. escape (x ∷ behind text stop)) c.in-u.is) h) c.unicode_escape.ensures.some

pub returns-in-0-clause-some : goal.returns-in-0-clause-some
returns-in-0-clause-some c =
    let text = c.args.text.now in
    let stop = c.in-Some.step.end in
    let p = c.in-Some.ensures.some in
    let near = escape (0x30 ∷ behind text stop) in
    let wide = escape (behind text c.args.at) in
    some_gives (λ e. IsPieceAt near 1 text stop e) (λ e. IsPieceAt wide 0 text c.args.at e) c.null_escape.result
    (λ e h. piece_behind wide near 0 text c.args.at stop c.in-Some.step.c e p (ap escape p.split ∙ ap (λ x. escape (x ∷ behind text stop)) c.in-0.is) h) c.null_escape.ensures.some

pub returns-in_default-c-clause-some : goal.returns-in_default-c-clause-some
returns-in_default-c-clause-some c =
    let text = c.args.text.now in
    let stop = c.in-Some.step.end in
    let p = c.in-Some.ensures.some in
    piece_behind (escape (behind text c.args.at)) (escape (c.in-Some.step.c ∷ behind text stop)) 0 text c.args.at stop c.in-Some.step.c c.line_continuation.result p (ap escape p.split) c.line_continuation.ensures
