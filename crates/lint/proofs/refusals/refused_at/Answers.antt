use Rattle.std.proofs.Common.{rules}
use Rattle.lint.proofs.refusals.refused_at.Goals as goal

pub returns-in_default : goal.returns-in_default
returns-in_default c = search rules

pub returns-in-Syntax-clause-place : goal.returns-in-Syntax-clause-place
returns-in-Syntax-clause-place c = search rules
