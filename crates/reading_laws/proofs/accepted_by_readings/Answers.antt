use Rattle.reading_laws.proofs.accepted_by_readings.Goals as goal
use Rattle.reading_laws.proofs.ReadingDerivations.{same_accepted}

pub returns : goal.returns
returns c = same_accepted
