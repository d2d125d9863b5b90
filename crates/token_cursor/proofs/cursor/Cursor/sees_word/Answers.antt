use Rattle.std.proofs.Common.{sym, ◌∙◌}
use Rattle.std.proofs.lemmas.Bool.{OnTrue_from, OnFalse_from}
use Rattle.tokens.specs.declared.token.TokenClass.TheVariants.{IdentifierName}
use Rattle.tokens.specs.declared.token.Goal.TheVariants.{Div}
use Rattle.token_cursor.proofs.TokensAhead.{sees, word_missed, word_none}
use Rattle.token_cursor.proofs.cursor.Cursor.sees_word.Goals as goal

pub returns-in-Some-clause-seen : goal.returns-in-Some-clause-seen
returns-in-Some-clause-seen c = OnTrue_from _ _ (λ h. sees _ Div IdentifierName _ _ _ c.in-Some.ensures.some (sym c.is_name_token.ensures.is ∙ h))

pub returns-in-Some-clause-missed : goal.returns-in-Some-clause-missed
returns-in-Some-clause-missed c = OnFalse_from _ _ (λ h. word_missed _ _ _ _ c.in-Some.ensures.some (sym c.is_name_token.ensures.is ∙ h))

pub returns-in-None-clause-missed : goal.returns-in-None-clause-missed
returns-in-None-clause-missed c = word_none _ _ _ c.in-None.ensures.none
