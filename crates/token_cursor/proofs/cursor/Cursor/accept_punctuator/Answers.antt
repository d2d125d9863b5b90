use Rattle.std.proofs.Common.{refl, sym, ◌∙◌}
use Rattle.tokens.specs.declared.token.TokenClass.TheVariants.{Punctuator}
use Rattle.tokens.specs.declared.token.Goal.TheVariants.{Div}
use Rattle.token_cursor.proofs.TokensAhead.{seen, mark_missed, mark_none}
use Rattle.token_cursor.proofs.cursor.Cursor.accept_punctuator.Goals as goal

pub returns-then-not-is_punctuator-clause-missed : goal.returns-then-not-is_punctuator-clause-missed
returns-then-not-is_punctuator-clause-missed c = (mark_missed _ _ _ _ c.in-Some.ensures.some (sym c.is_punctuator.ensures.is ∙ c.if-not-is_punctuator.true), refl)

pub returns-in_default-clause-missed : goal.returns-in_default-clause-missed
returns-in_default-clause-missed c = (mark_none _ _ _ c.in_default.ensures.none, refl)

pub returns-clause-accepted : goal.returns-clause-accepted
returns-clause-accepted c = rw c.advance.ensures.last (seen _ Div Punctuator _ _ _ c.in-Some.ensures.some (sym c.is_punctuator.ensures.is ∙ c.if-not-is_punctuator.false))
