use Rattle.tokens.proofs.QuickLexemes.{mark_lexeme}
use Rattle.tokens.proofs.scanner.mark.Goals as goal

pub returns : goal.returns
returns c = λ text g at u p. mark_lexeme g text at c.args.first.end c.args.first.c u p c.requires
