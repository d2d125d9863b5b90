use Rattle.reading_laws.proofs.derivations_are_readings.Goals as goal
use Rattle.reading_laws.proofs.ReadingDerivations.{derivations_listed}

pub returns : goal.returns
returns c = derivations_listed
