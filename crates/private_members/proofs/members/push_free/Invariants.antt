use Rattle.std.proofs.Common.{◌≡◌, ◌++◌, drop}
use Rattle.name_tables.specs.Sets.{contains}
use Rattle.private_members.specs.Uses.{free}
use Rattle.private_members.proofs.members.push_free.Given as goal

abbrev pub invariant-loop-used : goal.invariant-loop-used
invariant-loop-used l = l.uses.items ++ free (contains l.declared) (drop l.used-index l.inner) ≡ l.fn.uses.items ++ free (contains l.declared) l.inner
