use Rattle.reading_laws.proofs.derives_by_readings.Goals as goal
use Rattle.reading_laws.proofs.ReadingDerivations.{same_derivations}

pub returns : goal.returns
returns c = same_derivations
