use Rattle.std.proofs.Common.{sym, ◌∙◌}
use Rattle.regular_expressions.proofs.NameSteps.{group_open, group_refused, group_found}
use Rattle.regular_expressions.proofs.name.group_name.Goals as goal

pub returns-in_default-clause-none : goal.returns-in_default-clause-none
returns-in_default-clause-none c = group_open c.args.text.now c.args.at c.word_end-end.result c.word_end-end.ensures c.in_default.ensures.none

pub returns-then-not-is_name-clause-none : goal.returns-then-not-is_name-clause-none
returns-then-not-is_name-clause-none c =
    group_refused c.args.text.now c.range-word.result.now c.args.at c.word_end-end.result c.utf8.text c.requires c.word_end-end.ensures c.range-word.ensures.value (sym c.is_name.ensures ∙ c.if-not-is_name.true)

pub returns-clause-some : goal.returns-clause-some
returns-clause-some c =
    group_found c.args.text.now c.range-word.result.now c.args.at c.word_end-end.result c.in-Some.close.end c.in-Some.close.c c.utf8.text c.requires c.word_end-end.ensures c.in-Some.ensures.some c.range-word.ensures.value (sym c.is_name.ensures ∙ c.if-not-is_name.false)
