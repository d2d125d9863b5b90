use Rattle.std.proofs.Common.{sym, ◌∙◌}
use Rattle.private_members.proofs.PublicScripts.{nothing-found}
use Rattle.private_members.proofs.walk.push_found.Goals as goal

-- a script without private names
pub returns-then-not-has_private-clause-found : goal.returns-then-not-has_private-clause-found
returns-then-not-has_private-clause-found c = nothing-found c.args.program.now c.args.out.now.items (sym c.has_private.ensures ∙ c.if-not-has_private.true)
