use Rattle.std.proofs.Common.{refl, sym, ◌∙◌}
use Rattle.token_cursor.specs.Seen.{is_free_name}
use Rattle.tokens.specs.declared.token.Goal.TheVariants.{Div}
use Rattle.tokens.specs.Scanned.{token_of}
use Rattle.token_cursor.proofs.TokensAhead.{name_seen, name_ends, name_missed, name_none}
use Rattle.token_cursor.proofs.cursor.Cursor.expect_identifier.Goals as goal

pub returns-then-not-is_identifier-clause-missed : goal.returns-then-not-is_identifier-clause-missed
returns-then-not-is_identifier-clause-missed c = (name_missed _ is_free_name _ _ c.in-Some.ensures.some (sym c.is_identifier.ensures.is ∙ c.if-not-is_identifier.true), refl)

pub returns-in_default-clause-missed : goal.returns-in_default-clause-missed
returns-in_default-clause-missed c = (name_none _ is_free_name _ c.in_default.ensures.none, refl)

pub returns-clause-accepted : goal.returns-clause-accepted
returns-clause-accepted c = rw c.advance.ensures.last (name_seen _ is_free_name Div _ _ c.in-Some.ensures.some (sym c.is_identifier.ensures.is ∙ c.if-not-is_identifier.false), name_ends c.args.self.now.text (token_of c.in-Some.token) (rw c.if-not-is_identifier.false at c.is_identifier.ensures.class))
