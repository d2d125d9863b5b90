use Rattle.std.proofs.Common.{refl, sym, ◌∙◌}
use Rattle.token_cursor.specs.Seen.{declares}
use Rattle.tokens.specs.declared.token.Goal.TheVariants.{Div}
use Rattle.tokens.specs.Scanned.{token_of}
use Rattle.token_cursor.proofs.TokensAhead.{name_seen, name_ends, name_missed, name_none}
use Rattle.token_cursor.proofs.cursor.Cursor.accept_declaration_word.Goals as goal

pub returns-then-not-is_declaration_word-clause-missed : goal.returns-then-not-is_declaration_word-clause-missed
returns-then-not-is_declaration_word-clause-missed c = (name_missed _ declares _ _ c.in-Some.ensures.some (sym c.is_declaration_word.ensures.is ∙ c.if-not-is_declaration_word.true), refl)

pub returns-in_default-clause-missed : goal.returns-in_default-clause-missed
returns-in_default-clause-missed c = (name_none _ declares _ c.in_default.ensures.none, refl)

pub returns-clause-accepted : goal.returns-clause-accepted
returns-clause-accepted c = rw c.advance.ensures.last (name_seen _ declares Div _ _ c.in-Some.ensures.some (sym c.is_declaration_word.ensures.is ∙ c.if-not-is_declaration_word.false), name_ends c.args.self.now.text (token_of c.in-Some.token) (rw c.if-not-is_declaration_word.false at c.is_declaration_word.ensures.class))
