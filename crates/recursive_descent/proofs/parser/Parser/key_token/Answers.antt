use Rattle.std.proofs.Common.{refl, sym, ◌∙◌}
use Rattle.tokens.specs.declared.token.Goal.TheVariants.{Div}
use Rattle.parser_tables.specs.Tests.{is_key}
use Rattle.token_cursor.proofs.TokensAhead.{none_by}
use Rattle.recursive_descent.proofs.sound_properties.MemberWords.{no_key}
use Rattle.recursive_descent.proofs.parser.Parser.key_token.Goals as goal

pub returns-in_default-clause-missed : goal.returns-in_default-clause-missed
returns-in_default-clause-missed c = (none_by _ (is_key c.args.self.now.cursor.text c.args.in_class) Div _ c.in_default.ensures.none, refl)

pub returns-then-not-is_private_key-clause-missed : goal.returns-then-not-is_private_key-clause-missed
returns-then-not-is_private_key-clause-missed c = (no_key c.args.self.now.cursor.text c.args.in_class _ _ c.in-Some.ensures.some (sym c.is_key_class.ensures ∙ c.if-not-is_key_class.true) (sym c.is_private_key.ensures ∙ c.if-not-is_private_key.true), refl)
