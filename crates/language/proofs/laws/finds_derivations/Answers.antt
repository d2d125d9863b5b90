use Rattle.language.proofs.table.SearchIsSound.{spelled_sound}
use Rattle.language.proofs.table.SearchIsComplete.{spells_found}
use Rattle.language.proofs.laws.finds_derivations.Goals as goal

pub returns : goal.returns
returns c = λ n a ts us P. (λ h. spelled_sound n a ts (us, P) h, λ d. spells_found d.1)
