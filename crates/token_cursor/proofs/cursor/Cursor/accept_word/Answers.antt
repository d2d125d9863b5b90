use Rattle.std.proofs.Common.{refl, sym, ◌∙◌}
use Rattle.tokens.specs.declared.token.TokenClass.TheVariants.{IdentifierName}
use Rattle.tokens.specs.declared.token.Goal.TheVariants.{Div}
use Rattle.token_cursor.proofs.TokensAhead.{seen, word_missed, word_none}
use Rattle.token_cursor.proofs.cursor.Cursor.accept_word.Goals as goal

pub returns-then-not-is_name_token-clause-missed : goal.returns-then-not-is_name_token-clause-missed
returns-then-not-is_name_token-clause-missed c = (word_missed _ _ _ _ c.in-Some.ensures.some (sym c.is_name_token.ensures.is ∙ c.if-not-is_name_token.true), refl)

pub returns-in_default-clause-missed : goal.returns-in_default-clause-missed
returns-in_default-clause-missed c = (word_none _ _ _ c.in_default.ensures.none, refl)

pub returns-clause-accepted : goal.returns-clause-accepted
returns-clause-accepted c = rw c.advance.ensures.last (seen _ Div IdentifierName _ _ _ c.in-Some.ensures.some (sym c.is_name_token.ensures.is ∙ c.if-not-is_name_token.false))
