use Rattle.std.proofs.Common.{◌∙◌, arith}
use Rattle.parser_tables.proofs.Begun.{undeclared}
use Rattle.parser_tables.proofs.statements.start_of_item.Goals as goal

pub returns-in_default : goal.returns-in_default
returns-in_default c = c.start_of_statement_word.ensures ∙ undeclared c.args.word.now c.args.returns c.first_byte.result c.first_byte.ensures (λ e. grind arith, (λ e. grind arith, (λ e. grind arith, tt)))
