use Rattle.std.proofs.Common.{sym, ◌∙◌}
use Rattle.tokens.proofs.QuickLexemes.{operator_lexeme}
use Rattle.tokens.proofs.scanner.lone_operator.Goals as goal

pub returns : goal.returns
returns c = λ g at p.
    operator_lexeme g c.args.text.now at c.args.first.end c.in-Some.next.end c.args.first.c c.in-Some.next.c c.utf8.text p c.in-Some.ensures.some c.requires.operator (sym c.goes_on.ensures ∙ c.if-goes_on.false)
