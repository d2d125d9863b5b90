use Rattle.language.proofs.texts.Frame.{Spells-more}
use Rattle.language.proofs.laws.stays_with_more_tokens.Goals as goal

pub returns : goal.returns
returns c = λ n a o ts us vs P d. Spells-more vs d
