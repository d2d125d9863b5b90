use Rattle.std.proofs.Common.{refl, sym, ap, ◌∙◌, subst}
use Rattle.std.specs.Str.{IsUtf8}
use Rattle.source_text.specs.Source.{IsPlace}
use Rattle.tokens.specs.Scanned.{token_of}
use Rattle.language.specs.Token.{Token, as_read}
use Rattle.language.specs.Edges.{may_omit_semicolon}
use Rattle.token_cursor.specs.SourceText.{behind_in}
use Rattle.token_cursor.specs.StatementEnds.{ending_of}
use Rattle.token_cursor.specs.CursorState.{CursorState}
use Rattle.token_cursor.proofs.Endings.{ends_behind_semicolon, ends_here, ends_nowhere, ends_at_none}
use Rattle.token_cursor.proofs.cursor.Cursor.semicolon.Goals as goal

pub returns-in_default-clause-err : goal.returns-in_default-clause-err
returns-in_default-clause-err c =
    let utf8 = subst (λ (p : CursorState). IsUtf8 p.text.bytes) c.self.view_is c.text-text.ensures.utf8 in
    let place = subst (λ (p : CursorState). IsPlace p.text.bytes p.last.stop) c.self.view_is c.self.invariant.0 in
    (c.next_start.ensures.place, λ e h. ends_at_none _ _ _ utf8 place c.in_default.ensures.none e h, refl)

pub returns-then-is_semicolon-clause-ok : goal.returns-then-is_semicolon-clause-ok
returns-then-is_semicolon-clause-ok c =
    let utf8 = subst (λ (p : CursorState). IsUtf8 p.text.bytes) c.self.view_is c.text-text.ensures.utf8 in
    let place = subst (λ (p : CursorState). IsPlace p.text.bytes p.last.stop) c.self.view_is c.self.invariant.0 in
    rw c.advance.ensures.last (ends_behind_semicolon _ _ _ _ utf8 place c.in-Some.ensures.some (sym c.is_semicolon.ensures ∙ c.if-is_semicolon.true))

pub returns-then-may_omit_semicolon-clause-ok : goal.returns-then-may_omit_semicolon-clause-ok
returns-then-may_omit_semicolon-clause-ok c =
    let utf8 = subst (λ (p : CursorState). IsUtf8 p.text.bytes) c.self.view_is c.text-text.ensures.utf8 in
    let place = subst (λ (p : CursorState). IsPlace p.text.bytes p.last.stop) c.self.view_is c.self.invariant.0 in
    let last = ap (λ (p : CursorState). may_omit_semicolon (ending_of c.args.ending) (behind_in p.text p.last) (as_read (token_of c.in-Some.token))) c.self.view_is in
    let seen = ap (λ (t : Token). may_omit_semicolon (ending_of c.args.ending) t (as_read (token_of c.in-Some.token))) c.self.invariant.3 in
    ends_here _ _ _ _ utf8 place c.in-Some.ensures.some (sym c.is_semicolon.ensures ∙ c.if-is_semicolon.false) (sym last ∙ seen ∙ sym c.may_omit_semicolon.ensures ∙ c.if-may_omit_semicolon.true)

pub returns-clause-err : goal.returns-clause-err
returns-clause-err c =
    let utf8 = subst (λ (p : CursorState). IsUtf8 p.text.bytes) c.self.view_is c.text-text.ensures.utf8 in
    let place = subst (λ (p : CursorState). IsPlace p.text.bytes p.last.stop) c.self.view_is c.self.invariant.0 in
    let last = ap (λ (p : CursorState). may_omit_semicolon (ending_of c.args.ending) (behind_in p.text p.last) (as_read (token_of c.in-Some.token))) c.self.view_is in
    let seen = ap (λ (t : Token). may_omit_semicolon (ending_of c.args.ending) t (as_read (token_of c.in-Some.token))) c.self.invariant.3 in (
      c.next_start-2.ensures.place,
      λ e h. ends_nowhere _ _ _ _ utf8 place c.in-Some.ensures.some (sym c.is_semicolon.ensures ∙ c.if-is_semicolon.false) (sym last ∙ seen ∙ sym c.may_omit_semicolon.ensures ∙ c.if-may_omit_semicolon.false) e h,
      refl,
    )
