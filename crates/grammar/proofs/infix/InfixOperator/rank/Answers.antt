use Rattle.std.proofs.Common.{rules}
use Rattle.grammar.proofs.infix.InfixOperator.rank.Goals as goal

pub returns-in-FatArrow : goal.returns-in-FatArrow
returns-in-FatArrow c = search rules

pub returns-in-PostUpdate : goal.returns-in-PostUpdate
returns-in-PostUpdate c = search rules
