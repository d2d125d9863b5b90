use Rattle.std.proofs.Common.{true, [], ◌∷◌, ap, ◌∙◌, subst}
use Rattle.tokens.specs.Reading.{behind}
use Rattle.tokens.specs.Scanned.{Passed}
use Rattle.tokens.proofs.PassedCharacters.{some_gives}
use Rattle.regular_expressions.specs.Characters.{braced, unicode_escape}
use Rattle.regular_expressions.specs.Scanned.{IsRead}
use Rattle.regular_expressions.proofs.Productions.{read_behind}
use Rattle.regular_expressions.proofs.hex.unicode_escape.Goals as goal

pub returns-then-first-eq123-clause-some : goal.returns-then-first-eq123-clause-some
returns-then-first-eq123-clause-some c =
    let text = c.args.text.now in
    let p = subst (λ x. Passed text c.args.at c.in-Some.first.end (x ∷ [])) c.if-first-eq123.true c.in-Some.ensures.some in
    some_gives (λ r. IsRead (braced (behind text c.in-Some.first.end)) r.value text c.in-Some.first.end r.end)
    (λ r. IsRead (unicode_escape c.args.is_unicode (behind text c.args.at)) r.value text c.args.at r.end) c.braced.result
    (λ r h. read_behind (unicode_escape c.args.is_unicode (behind text c.args.at)) (braced (behind text c.in-Some.first.end)) r.value text c.args.at c.in-Some.first.end r.end 0x7B p
    (ap (λ b. unicode_escape b (behind text c.args.at)) c.if-is_unicode.true ∙ ap (unicode_escape true) p.split) h)
    c.braced.ensures.some
