use Rattle.std.proofs.Common.{sym, ap, ◌∙◌}
use Rattle.std.specs.Prelude.{Some}
use Rattle.parser_tables.proofs.StartsByClass.{unreserved}
use Rattle.parser_tables.proofs.expression_starts.start_of_word.Goals as goal

pub returns-then-not-is_reserved-clause-coded : goal.returns-then-not-is_reserved-clause-coded
returns-then-not-is_reserved-clause-coded c = ap Some c.start_of_name.ensures ∙ unreserved c.args.language c.args.word.now (sym c.is_reserved.ensures ∙ c.if-not-is_reserved.true)
