use Rattle.std.proofs.Common.{sym, ◌∙◌}
use Rattle.std.proofs.lemmas.Bool.{OnTrue_from, OnFalse_from}
use Rattle.tokens.specs.declared.token.Goal.TheVariants.{Div}
use Rattle.token_cursor.proofs.TokensAhead as ahead
use Rattle.token_cursor.proofs.cursor.Cursor.sees_await.Goals as goal

pub returns-in-Some-clause-seen : goal.returns-in-Some-clause-seen
returns-in-Some-clause-seen c = OnTrue_from _ _ (λ h. ahead.sees_await _ Div _ _ c.in-Some.ensures.some (sym c.is_keyword.ensures ∙ h))

pub returns-in-Some-clause-missed : goal.returns-in-Some-clause-missed
returns-in-Some-clause-missed c = OnFalse_from _ _ (λ h. ahead.await_missed _ _ _ c.in-Some.ensures.some (sym c.is_keyword.ensures ∙ h))

pub returns-in-None-clause-missed : goal.returns-in-None-clause-missed
returns-in-None-clause-missed c = ahead.await_none _ _ c.in-None.ensures.none
