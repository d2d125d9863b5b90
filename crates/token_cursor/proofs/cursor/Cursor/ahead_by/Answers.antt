use Rattle.std.proofs.Common.{sym, ◌∙◌, subst, rules}
use Rattle.std.specs.Str.{IsUtf8}
use Rattle.source_text.specs.Source.{IsPlace}
use Rattle.tokens.specs.declared.token.Goal.TheVariants.{Div}
use Rattle.tokens.specs.Scanned.{token_of}
use Rattle.language.specs.declared.Language.TheVariants.{Base}
use Rattle.token_cursor.specs.CursorState.{CursorState, Ahead, IsAhead}
use Rattle.token_cursor.proofs.ScanResults.{ahead_by, scan_again}
use Rattle.token_cursor.proofs.cursor.Cursor.ahead_by.Goals as goal
use Rattle.token_cursor.proofs.cursor.Cursor.ahead_by.Goals.{in_default-via-in-Ok+else-not-depends_on_goal, in_default-via-in_default}

pub scan_after-requires : goal.scan_after-requires
scan_after-requires c = search rules

pub returns-in-Div : goal.returns-in-Div
returns-in-Div c = search rules

pub returns-in-Ok : goal.returns-in-Ok
returns-in-Ok c =
    let utf8 = subst (λ (p : CursorState). IsUtf8 p.text.bytes) c.self.view_is c.text-text.ensures.utf8 in
    let place = subst (λ (p : CursorState). IsPlace p.text.bytes p.last.stop) c.self.view_is c.self.invariant.0 in
    let a = rw c.in-Ok.is at c.self.invariant.2 in
    let b = subst (λ (p : CursorState). IsAhead Div p.text p.last.stop (token_of c.in-Ok.token)) c.self.view_is a in
    let d = rw c.in-Ok.is at c.depends_on_goal.ensures in
    rw c.in-Ok.is (ahead_by _ _ _ _ utf8 place (sym d ∙ c.if-not-depends_on_goal.true) b)

pub returns-in_default : goal.returns-in_default
returns-in_default c =
    let utf8 = subst (λ (p : CursorState). IsUtf8 p.text.bytes) c.self.view_is c.text-text.ensures.utf8 in
    let place = subst (λ (p : CursorState). IsPlace p.text.bytes p.last.stop) c.self.view_is c.self.invariant.0 in
    let a = subst (λ (p : CursorState). Ahead Div p.text p.last.stop c.self.inside.ahead) c.self.view_is c.self.invariant.2 in
    let b = subst (λ (p : CursorState). Ahead c.args.goal (record { bytes = p.text.bytes; language = Base }) p.last.stop c.scan_after.result) c.self.view_is c.scan_after.ensures in
    elim c.in_default.branch [
      | in_default-via-in-Ok+else-not-depends_on_goal w ↦ scan_again _ _ _ c.self.inside.ahead _ utf8 place (rw w.in-Ok.is (let d = rw w.in-Ok.is at w.depends_on_goal.ensures in sym d ∙ w.if-not-depends_on_goal.false)) a b
      | in_default-via-in_default w ↦ scan_again _ _ _ c.self.inside.ahead _ utf8 place (rw w.in_default.is tt) a b
    ]
