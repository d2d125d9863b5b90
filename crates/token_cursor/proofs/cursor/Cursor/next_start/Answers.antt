use Rattle.std.proofs.Common.{◌≡◌, ap, ◌∙◌, subst}
use Rattle.tokens.specs.declared.token.Goal.TheVariants.{Div}
use Rattle.tokens.specs.Tokens.{LexicalToken}
use Rattle.tokens.specs.Reading.{behind, Reads}
use Rattle.tokens.proofs.TokenUniqueness.{determined}
use Rattle.token_cursor.specs.CursorState.{CursorState}
use Rattle.token_cursor.proofs.cursor.Cursor.next_start.Goals as goal

pub returns-in-Ok-clause-starts : goal.returns-in-Ok-clause-starts
returns-in-Ok-clause-starts c =
    let text = c.self.inside.source.now in
    let at = c.self.inside.last.end in
    let ahead = rw c.in-Ok.is at c.self.invariant.2 in
    subst (λ (p : CursorState). (t : LexicalToken) → Reads p.text.bytes Div p.last.stop t → c.in-Ok.token.start ≡ t.start) c.self.view_is
    (λ t h. ap (λ (y : LexicalToken). y.start) ahead.seen ∙ ap (λ (y : LexicalToken). y.start) (determined Div at (behind text at) ahead.scanned t (behind text ahead.scanned.stop) (behind text t.stop) ahead.read h).0)
