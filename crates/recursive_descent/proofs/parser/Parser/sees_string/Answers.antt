use Rattle.std.proofs.Common.{sym, ◌∙◌}
use Rattle.std.proofs.lemmas.Bool.{OnTrue_from, OnFalse_from}
use Rattle.tokens.specs.declared.token.Goal.TheVariants.{Div}
use Rattle.token_cursor.proofs.TokensAhead.{seen_by, missed_by}
use Rattle.recursive_descent.specs.ModuleItems.{is_quoted}
use Rattle.recursive_descent.proofs.sound_modules.ModuleTokens.{string_test}
use Rattle.recursive_descent.proofs.parser.Parser.sees_string.Goals as goal

pub returns-in-Some-clause-seen : goal.returns-in-Some-clause-seen
returns-in-Some-clause-seen c = OnTrue_from _ _ (λ h. seen_by _ is_quoted Div _ _ c.in-Some.ensures.some (sym (string_test c.in-Some.token.class) ∙ sym c.eq.ensures ∙ h))

pub returns-in-Some-clause-missed : goal.returns-in-Some-clause-missed
returns-in-Some-clause-missed c = OnFalse_from _ _ (λ h. missed_by _ is_quoted Div _ _ c.in-Some.ensures.some (sym (string_test c.in-Some.token.class) ∙ sym c.eq.ensures ∙ h))
