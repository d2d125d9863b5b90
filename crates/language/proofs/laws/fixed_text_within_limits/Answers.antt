use Rattle.language.proofs.layout.FixedReads.{within_always}
use Rattle.language.proofs.laws.fixed_text_within_limits.Goals as goal

pub returns : goal.returns
returns c = within_always
