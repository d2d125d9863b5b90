use Rattle.std.proofs.Common.{refl, sym, ◌∙◌}
use Rattle.tokens.specs.declared.token.Goal.TheVariants.{Div}
use Rattle.token_cursor.proofs.TokensAhead.{await_ahead, await_missed, await_none}
use Rattle.token_cursor.proofs.cursor.Cursor.accept_await.Goals as goal

pub returns-then-not-is_keyword-clause-missed : goal.returns-then-not-is_keyword-clause-missed
returns-then-not-is_keyword-clause-missed c = (await_missed _ _ _ c.in-Some.ensures.some (sym c.is_keyword.ensures ∙ c.if-not-is_keyword.true), refl)

pub returns-in_default-clause-missed : goal.returns-in_default-clause-missed
returns-in_default-clause-missed c = (await_none _ _ c.in_default.ensures.none, refl)

pub returns-clause-accepted : goal.returns-clause-accepted
returns-clause-accepted c = rw c.advance.ensures.last (await_ahead _ Div _ _ c.in-Some.ensures.some (sym c.is_keyword.ensures ∙ c.if-not-is_keyword.false))
