use Rattle.parser_tables.proofs.StartsByClass.{await_begins, nothing_begins}
use Rattle.parser_tables.proofs.expression_starts.start_of_keyword.Goals as goal

pub returns-in-await-clause-coded : goal.returns-in-await-clause-coded
returns-in-await-clause-coded c = await_begins c.args.word.now c.in-await.is

pub returns-in_default-clause-coded : goal.returns-in_default-clause-coded
returns-in_default-clause-coded c = nothing_begins c.args.word.now c.in_default.not-await
