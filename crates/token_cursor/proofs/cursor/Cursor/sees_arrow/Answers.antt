use Rattle.std.proofs.Common.{sym, ◌∙◌}
use Rattle.std.proofs.lemmas.Bool.{OnTrue_from, OnFalse_from}
use Rattle.std.specs.Prelude.{codes}
use Rattle.tokens.specs.Scanned.{token_of}
use Rattle.token_cursor.proofs.TokensAhead.{sees_line, missed_line, no_line}
use Rattle.token_cursor.proofs.cursor.Cursor.sees_arrow.Goals as goal

pub returns-then-is_punctuator-clause-seen : goal.returns-then-is_punctuator-clause-seen
returns-then-is_punctuator-clause-seen c = OnTrue_from _ _ (λ h. sees_line _ (codes "=>") _ _ c.in-Some.ensures.some (sym c.is_punctuator.ensures.is ∙ c.if-is_punctuator.true) h)

pub returns-then-is_punctuator-clause-missed : goal.returns-then-is_punctuator-clause-missed
returns-then-is_punctuator-clause-missed c = OnFalse_from _ _ (λ h. missed_line _ (codes "=>") _ _ c.in-Some.ensures.some h)

pub returns-else-is_punctuator-clause-missed : goal.returns-else-is_punctuator-clause-missed
returns-else-is_punctuator-clause-missed c =
    OnFalse_from _ _ (λ h. no_line c.args.self.now.text (codes "=>") c.args.self.now.last (token_of c.in-Some.token) c.in-Some.ensures.some (sym c.is_punctuator.ensures.is ∙ c.if-is_punctuator.false))
