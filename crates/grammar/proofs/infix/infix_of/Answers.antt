use Rattle.std.proofs.Common.{◌∙◌}
use Rattle.grammar.proofs.InfixRows.{word_found, word_missed}
use Rattle.grammar.proofs.infix.infix_of.Goals as goal

pub returns-in-Some : goal.returns-in-Some
returns-in-Some c = word_found c.args.text.now c.in-Some.operator c.in-Some.ensures

pub returns-in-None : goal.returns-in-None
returns-in-None c = c.infix_of_punctuator.ensures ∙ word_missed c.args.text.now c.in-None.ensures
