use Rattle.std.proofs.Common.{true, [], ◌∷◌, ap, ◌∙◌, subst}
use Rattle.tokens.specs.Reading.{behind}
use Rattle.tokens.specs.Scanned.{Passed}
use Rattle.tokens.proofs.PassedCharacters.{some_gives}
use Rattle.regular_expressions.specs.Characters.{unicode_escape}
use Rattle.regular_expressions.specs.Names.{name_escape, name_character}
use Rattle.regular_expressions.specs.Scanned.{IsRead}
use Rattle.regular_expressions.proofs.Productions.{read_behind}
use Rattle.regular_expressions.proofs.name.name_character.Goals as goal

pub returns-clause-some : goal.returns-clause-some
returns-clause-some c =
    let text = c.args.text.now in
    let at = c.args.first.end in
    let p = subst (λ x. Passed text at c.in-Some.second.end (x ∷ [])) c.if-second-ne117.false c.in-Some.ensures.some in
    some_gives (λ r. IsRead (unicode_escape true (behind text c.in-Some.second.end)) r.value text c.in-Some.second.end r.end)
    (λ r. IsRead (name_character c.args.first.c (behind text at)) r.value text at r.end) c.unicode_escape.result
    (λ r h. read_behind (name_character c.args.first.c (behind text at)) (unicode_escape true (behind text c.in-Some.second.end)) r.value text at c.in-Some.second.end r.end 0x75 p
    (ap (λ x. name_character x (behind text at)) c.if-first-ne92.false ∙ ap name_escape p.split) h)
    c.unicode_escape.ensures.some
