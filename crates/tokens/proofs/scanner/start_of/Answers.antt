use Rattle.std.proofs.Common.{IsTrue, sym, subst}
use Rattle.tokens.specs.TokenStarts.{begins_so}
use Rattle.tokens.proofs.QuickLexemes.{start_rows}
use Rattle.tokens.proofs.scanner.start_of.Goals as goal

pub returns : goal.returns
returns c = subst (λ s. IsTrue (begins_so s c.args.c)) (sym c.start_at.ensures) (start_rows c.args.c c.requires)
