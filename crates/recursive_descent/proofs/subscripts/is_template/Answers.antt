use Rattle.std.proofs.Common.{sym}
use Rattle.recursive_descent.proofs.reading.LineBreaks.{not_template}
use Rattle.recursive_descent.proofs.subscripts.is_template.Goals as goal

pub returns-in_default : goal.returns-in_default
returns-in_default c = sym (not_template c.args.token.now.class c.in_default.not-Template)
