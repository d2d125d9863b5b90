use Rattle.std.proofs.Common.{inl, refl}
use Rattle.jslint.proofs.list_run.bytes_under.Goals as goal

pub returns-in-Err-clause-stopped : goal.returns-in-Err-clause-stopped
returns-in-Err-clause-stopped g c = (refl, inl c.in-Err.ensures.error)
