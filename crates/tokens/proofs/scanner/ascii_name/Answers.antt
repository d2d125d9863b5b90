use Rattle.tokens.proofs.QuickLexemes.{name_lexeme}
use Rattle.tokens.proofs.scanner.ascii_name.Goals as goal

pub returns : goal.returns
returns c = λ g at p. name_lexeme g c.args.text.now at c.args.first.end c.in-Some.end c.args.first.c p c.requires.start c.in-Some.ensures
