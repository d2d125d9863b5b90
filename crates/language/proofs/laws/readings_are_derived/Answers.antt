use Rattle.language.proofs.texts.Readings.{derived_by_reading}
use Rattle.language.proofs.laws.readings_are_derived.Goals as goal

pub returns : goal.returns
returns c = λ o text n P tokens final u r d. derived_by_reading o text n P tokens final u r d
