use Rattle.language.proofs.layout.FixedReads.{fixed_always_in}
use Rattle.language.proofs.laws.fixed_text_derives_in.Goals as goal

pub returns : goal.returns
returns c = fixed_always_in
