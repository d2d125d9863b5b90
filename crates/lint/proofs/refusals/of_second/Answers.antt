use Rattle.std.proofs.Common.{inl, inr, refl}
use Rattle.lint.proofs.refusals.of_second.Goals as goal

pub returns-in-OutOfMemory : goal.returns-in-OutOfMemory
returns-in-OutOfMemory c = inl (c.in-OutOfMemory.is, c.at_no_place.ensures)

pub returns-in_default : goal.returns-in_default
returns-in_default c = inr (c.in_default.not-OutOfMemory, refl)
