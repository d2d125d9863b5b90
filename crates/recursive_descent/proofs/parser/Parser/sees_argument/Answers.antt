use Rattle.std.proofs.Common.{sym, ◌∙◌}
use Rattle.std.proofs.lemmas.Bool.{OnTrue_from, OnFalse_from}
use Rattle.tokens.specs.declared.token.Goal.TheVariants.{RegExp}
use Rattle.parser_tables.specs.Tests.{ends_word}
use Rattle.token_cursor.proofs.TokensAhead.{seen_by, missed_by, none_by, not_true, not_false}
use Rattle.recursive_descent.proofs.parser.Parser.sees_argument.Goals as goal

pub returns-in-Some-clause-given : goal.returns-in-Some-clause-given
returns-in-Some-clause-given c = OnTrue_from _ _ (λ h. missed_by _ ends_word RegExp _ _ c.in-Some.ensures.some (sym c.ends_operand.ensures ∙ not_true _ h))

pub returns-in-Some-clause-missing : goal.returns-in-Some-clause-missing
returns-in-Some-clause-missing c = OnFalse_from _ _ (λ h. seen_by _ ends_word RegExp _ _ c.in-Some.ensures.some (sym c.ends_operand.ensures ∙ not_false _ h))

pub returns-in-None-clause-given : goal.returns-in-None-clause-given
returns-in-None-clause-given c = none_by _ ends_word RegExp _ c.in-None.ensures.none
