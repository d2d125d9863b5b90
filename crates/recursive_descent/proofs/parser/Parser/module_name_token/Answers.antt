use Rattle.tokens.specs.declared.token.Goal.TheVariants.{Div}
use Rattle.token_cursor.proofs.TokensAhead.{missed_by}
use Rattle.recursive_descent.specs.ModuleItems.{is_module_name}
use Rattle.recursive_descent.proofs.sound_modules.ModuleTokens.{no_name_test}
use Rattle.recursive_descent.proofs.parser.Parser.module_name_token.Goals as goal

pub returns-then-ne-clause-missed : goal.returns-then-ne-clause-missed
returns-then-ne-clause-missed c = missed_by _ is_module_name Div _ _ c.in-Some.ensures.some (no_name_test c.in-Some.token.class _ _ c.is_identifier_name.ensures c.if-not-is_identifier_name.true c.ne.ensures c.if-ne.true)
