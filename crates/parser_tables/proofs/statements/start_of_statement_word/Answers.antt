use Rattle.std.proofs.Common.{◌∙◌, arith}
use Rattle.std.specs.Prelude.{codes}
use Rattle.parser_tables.proofs.Begun.{states_first, states_no_first}
use Rattle.parser_tables.proofs.statements.start_of_statement_word.Goals as goal

pub returns-in-98 : goal.returns-in-98
returns-in-98 c = c.start_with_bdi.ensures ∙ states_first (codes "bdi") c.args.word.now c.args.returns c.first_byte.result c.first_byte.ensures c.in-98.is

pub returns-in-99 : goal.returns-in-99
returns-in-99 c = c.start_with_cfv.ensures ∙ states_first (codes "cfv") c.args.word.now c.args.returns c.first_byte.result c.first_byte.ensures c.in-99.is

pub returns-in-114 : goal.returns-in-114
returns-in-114 c = c.start_with_rt.ensures ∙ states_first (codes "rt") c.args.word.now c.args.returns c.first_byte.result c.first_byte.ensures c.in-114.is

pub returns-in-115 : goal.returns-in-115
returns-in-115 c = c.start_with_sw.ensures ∙ states_first (codes "sw") c.args.word.now c.args.returns c.first_byte.result c.first_byte.ensures c.in-115.is

pub returns-in_default : goal.returns-in_default
returns-in_default c = states_no_first c.args.word.now c.args.returns c.first_byte.result c.first_byte.ensures (λ e. grind arith, (λ e. grind arith, (λ e. grind arith, (λ e. grind arith, (λ e. grind arith, (λ e. grind arith, (λ e. grind arith, (λ e. grind arith, (λ e. grind arith, (λ e. grind arith, tt))))))))))
