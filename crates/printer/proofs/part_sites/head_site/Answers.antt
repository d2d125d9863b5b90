use Rattle.std.proofs.Common.{sym}
use Rattle.printer.proofs.SiteLemmas.{head_default}
use Rattle.printer.proofs.part_sites.head_site.Goals as goal

pub returns-in_default : goal.returns-in_default
returns-in_default c = sym (head_default c.args.kind (λ h. c.in_default.not-VariableDeclaration h))
