use Rattle.std.proofs.Common.{refl, sym, ◌∙◌}
use Rattle.tokens.specs.declared.token.Goal.TheVariants.{TemplateTail}
use Rattle.parser_tables.specs.Tests.{is_later_part}
use Rattle.token_cursor.proofs.TokensAhead.{missed_by}
use Rattle.recursive_descent.proofs.parser.Parser.template_element_token.Goals as goal

pub returns-then-not-is_later_part-clause-missed : goal.returns-then-not-is_later_part-clause-missed
returns-then-not-is_later_part-clause-missed c = (missed_by _ is_later_part TemplateTail _ _ c.in-Some.ensures.some (sym c.is_later_part.ensures ∙ c.if-not-is_later_part.true), refl)
