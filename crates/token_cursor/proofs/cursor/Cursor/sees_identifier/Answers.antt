use Rattle.std.proofs.Common.{sym, ◌∙◌}
use Rattle.std.proofs.lemmas.Bool.{OnTrue_from, OnFalse_from}
use Rattle.tokens.specs.declared.token.Goal.TheVariants.{Div}
use Rattle.token_cursor.specs.Seen.{is_free_name}
use Rattle.token_cursor.proofs.TokensAhead.{sees_name, name_missed, name_none}
use Rattle.token_cursor.proofs.cursor.Cursor.sees_identifier.Goals as goal

pub returns-in-Some-clause-seen : goal.returns-in-Some-clause-seen
returns-in-Some-clause-seen c = OnTrue_from _ _ (λ h. sees_name _ is_free_name Div _ _ c.in-Some.ensures.some (sym c.is_identifier.ensures.is ∙ h))

pub returns-in-Some-clause-missed : goal.returns-in-Some-clause-missed
returns-in-Some-clause-missed c = OnFalse_from _ _ (λ h. name_missed _ is_free_name _ _ c.in-Some.ensures.some (sym c.is_identifier.ensures.is ∙ h))

pub returns-in-None-clause-missed : goal.returns-in-None-clause-missed
returns-in-None-clause-missed c = name_none _ is_free_name _ c.in-None.ensures.none
