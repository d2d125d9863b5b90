use Rattle.std.proofs.Common.{refl, sym, ◌∙◌}
use Rattle.tokens.specs.declared.token.Goal.TheVariants.{Div}
use Rattle.token_cursor.proofs.TokensAhead.{place_seen, any_word_seen, no_word, word_class_none}
use Rattle.token_cursor.proofs.cursor.Cursor.expect_identifier_name.Goals as goal

pub returns-then-not-is_identifier_name-clause-missed : goal.returns-then-not-is_identifier_name-clause-missed
returns-then-not-is_identifier_name-clause-missed c = (no_word _ _ _ c.in-Some.ensures.some (sym c.is_identifier_name.ensures ∙ c.if-not-is_identifier_name.true), refl)

pub returns-in_default-clause-missed : goal.returns-in_default-clause-missed
returns-in_default-clause-missed c = (word_class_none _ _ c.in_default.ensures.none, refl)

pub returns-clause-accepted : goal.returns-clause-accepted
returns-clause-accepted c = rw c.advance.ensures.last (any_word_seen _ Div _ _ c.in-Some.ensures.some (sym c.is_identifier_name.ensures ∙ c.if-not-is_identifier_name.false), place_seen _ c.in-Some.ensures.some)
