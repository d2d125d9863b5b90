use Rattle.std.proofs.Common.{◌≡◌, false, ◌∷◌, ◌&&◌, ap, ◌∙◌}
use Rattle.tokens.specs.Alphabet.{one_of}
use Rattle.tokens.specs.Reading.{behind}
use Rattle.tokens.proofs.PassedCharacters.{some_gives}
use Rattle.regular_expressions.specs.Characters.{escape}
use Rattle.regular_expressions.specs.Classes.{class_escape}
use Rattle.regular_expressions.specs.Scanned.{IsRead}
use Rattle.regular_expressions.proofs.Productions.{read_behind}
use Rattle.regular_expressions.proofs.ClassSteps.{no_dash, and_false, class_escape_other}
use Rattle.regular_expressions.proofs.class.class_escape.Goals as goal
use Rattle.regular_expressions.proofs.class.class_escape.Goals.{else-is_unicode-via-then-is_unicode+else-first-eq45, else-is_unicode-via-else-is_unicode}

pub returns-clause-some : goal.returns-clause-some
returns-clause-some c =
    let text = c.args.text.now in
    let at = c.args.at in
    let u = c.args.is_unicode in
    let d = c.in-Some.first.c in
    let end = c.in-Some.first.end in
    let p = c.in-Some.ensures.some in
    let k : (u && one_of "-" d) ≡ false = elim c.else-is_unicode.branch [
      | else-is_unicode-via-then-is_unicode+else-first-eq45 w ↦ and_false u (one_of "-" d) (no_dash d w.if-first-eq45.false)
      | else-is_unicode-via-else-is_unicode w ↦ ap (λ b. b && one_of "-" d) w.if-is_unicode.false
    ] in
    some_gives (λ r. IsRead (escape u (d ∷ behind text end)) r.value text end r.end) (λ r. IsRead (class_escape u (behind text at)) r.value text at r.end) c.escape_by.result
    (λ r h. read_behind (class_escape u (behind text at)) (escape u (d ∷ behind text end)) r.value text at end r.end d p
    (ap (class_escape u) p.split ∙ class_escape_other u d (behind text end) c.if-first-eq98.false k) h)
    c.escape_by.ensures.some
