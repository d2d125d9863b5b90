use Rattle.std.proofs.Common.{sym, ◌∙◌}
use Rattle.tokens.proofs.Names.{name_word, no_name}
use Rattle.tokens.proofs.name.name_end.Goals as goal

pub returns-then-is_start-clause-some : goal.returns-then-is_start-clause-some
returns-then-is_start-clause-some c = λ at p.
    name_word c.args.text.now at c.args.first.end c.parts_end.result c.args.first.c p (sym c.is_start.ensures ∙ c.if-is_start.true) c.parts_end.ensures

pub returns-clause-none : goal.returns-clause-none
returns-clause-none c = λ at p. no_name c.args.text.now at c.args.first.end c.args.first.c p (sym c.is_start.ensures ∙ c.if-is_start.false)
