use Rattle.std.proofs.Common.{sym, ◌∙◌}
use Rattle.std.proofs.lemmas.Bool.{OnTrue_from, OnFalse_from}
use Rattle.language.specs.Edges.{begins_no_operand}
use Rattle.token_cursor.proofs.TokensAhead.{seen_by, missed_by, none_by}
use Rattle.recursive_descent.proofs.parser.Parser.reads_no_operand.Goals as goal

pub returns-in-Some-clause-seen : goal.returns-in-Some-clause-seen
returns-in-Some-clause-seen c = OnTrue_from _ _ (λ h. seen_by _ begins_no_operand c.args.goal _ _ c.in-Some.ensures.some (sym c.begins_no_operand.ensures ∙ h))

pub returns-in-Some-clause-missed : goal.returns-in-Some-clause-missed
returns-in-Some-clause-missed c = OnFalse_from _ _ (λ h. missed_by _ begins_no_operand c.args.goal _ _ c.in-Some.ensures.some (sym c.begins_no_operand.ensures ∙ h))

pub returns-in-None-clause-missed : goal.returns-in-None-clause-missed
returns-in-None-clause-missed c = none_by _ begins_no_operand c.args.goal _ c.in-None.ensures.none
