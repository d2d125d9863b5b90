use Rattle.language.proofs.layout.SameLayouts.{same_wrapped, same_layout}
use Rattle.language.proofs.laws.places_change_no_layout.Goals as goal

pub returns : goal.returns
returns c = λ m n h. (same_wrapped m n h, same_layout m n h)
