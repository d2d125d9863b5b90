use Rattle.grammar.proofs.InfixRows.{no_word}
use Rattle.grammar.proofs.infix.infix_of_word.Goals as goal

pub returns-in_default : goal.returns-in_default
returns-in_default c = let d = c.in_default in no_word c.args.text.now d.not-in d.not-instanceof
