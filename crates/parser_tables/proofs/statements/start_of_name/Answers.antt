use Rattle.std.proofs.Common.{sym, ap, ◌∙◌}
use Rattle.tokens.specs.declared.token.TokenClass.TheVariants.{IdentifierName}
use Rattle.language.specs.StatementStart.{statement_start_by}
use Rattle.parser_tables.specs.StatementStarts.{coded_statement_start}
use Rattle.parser_tables.proofs.statements.start_of_name.Goals as goal

pub returns-in-true : goal.returns-in-true
returns-in-true c = c.start_of_item.ensures ∙ ap (λ d. coded_statement_start (statement_start_by d c.args.context.returns IdentifierName c.args.word.now)) (sym c.in-true.is)

pub returns-in-false : goal.returns-in-false
returns-in-false c = c.start_of_statement_word.ensures ∙ ap (λ d. coded_statement_start (statement_start_by d c.args.context.returns IdentifierName c.args.word.now)) (sym c.in-false.is)
