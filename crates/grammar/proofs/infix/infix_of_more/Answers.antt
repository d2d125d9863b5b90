use Rattle.std.proofs.Common.{◌∙◌, arith}
use Rattle.std.specs.Prelude.{codes}
use Rattle.grammar.proofs.InfixRows.{by_first, by_no_first}
use Rattle.grammar.proofs.infix.infix_of_more.Goals as goal

pub returns-in-33 : goal.returns-in-33
returns-in-33 c = c.equality_of.ensures ∙ by_first (codes "!=") c.args.text.now c.first_byte.result c.first_byte.ensures c.in-33.is

pub returns-in-60 : goal.returns-in-60
returns-in-60 c = c.comparison_of.ensures ∙ by_first (codes "<>") c.args.text.now c.first_byte.result c.first_byte.ensures c.in-60.is

pub returns-in-38 : goal.returns-in-38
returns-in-38 c = c.logical_of.ensures ∙ by_first (codes "&?|") c.args.text.now c.first_byte.result c.first_byte.ensures c.in-38.is

pub returns-in-43 : goal.returns-in-43
returns-in-43 c = c.sum_of.ensures ∙ by_first (codes "+-") c.args.text.now c.first_byte.result c.first_byte.ensures c.in-43.is

pub returns-in-37 : goal.returns-in-37
returns-in-37 c = c.product_of.ensures ∙ by_first (codes "%*/^") c.args.text.now c.first_byte.result c.first_byte.ensures c.in-37.is

pub returns-in_default : goal.returns-in_default
returns-in_default c = by_no_first c.args.text.now c.first_byte.result c.first_byte.ensures (λ e. grind arith, (λ e. grind arith, (λ e. grind arith, (λ e. grind arith, (λ e. grind arith, (λ e. grind arith, (λ e. grind arith, (λ e. grind arith, (λ e. grind arith, (λ e. grind arith, (λ e. grind arith, (λ e. grind arith, (λ e. grind arith, tt)))))))))))))
