use Rattle.language.proofs.layout.FixedReads.{fixed_always}
use Rattle.language.proofs.laws.fixed_text_derives.Goals as goal

pub returns : goal.returns
returns c = fixed_always
