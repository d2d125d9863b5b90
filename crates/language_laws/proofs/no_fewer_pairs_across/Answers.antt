use Rattle.language_laws.proofs.OtherLanguages.{no_fewer_across}
use Rattle.language_laws.proofs.no_fewer_pairs_across.Goals as goal

pub returns : goal.returns
returns c = no_fewer_across
