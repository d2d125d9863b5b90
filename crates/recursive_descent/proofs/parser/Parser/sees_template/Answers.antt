use Rattle.std.proofs.Common.{sym, ◌∙◌}
use Rattle.std.proofs.lemmas.Bool.{OnTrue_from, OnFalse_from}
use Rattle.tokens.specs.declared.token.Goal.TheVariants.{Div}
use Rattle.parser_tables.specs.Tests.{is_template}
use Rattle.token_cursor.proofs.TokensAhead.{seen_by, missed_by, none_by}
use Rattle.recursive_descent.proofs.parser.Parser.sees_template.Goals as goal

pub returns-in-Some-clause-seen : goal.returns-in-Some-clause-seen
returns-in-Some-clause-seen c = OnTrue_from _ _ (λ h. seen_by _ is_template Div _ _ c.in-Some.ensures.some (sym c.is_template.ensures ∙ h))

pub returns-in-Some-clause-missed : goal.returns-in-Some-clause-missed
returns-in-Some-clause-missed c = OnFalse_from _ _ (λ h. missed_by _ is_template Div _ _ c.in-Some.ensures.some (sym c.is_template.ensures ∙ h))

pub returns-in-None-clause-missed : goal.returns-in-None-clause-missed
returns-in-None-clause-missed c = none_by _ is_template Div _ c.in-None.ensures.none
