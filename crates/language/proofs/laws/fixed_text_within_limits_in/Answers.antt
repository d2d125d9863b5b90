use Rattle.language.proofs.layout.FixedReads.{within_always_in}
use Rattle.language.proofs.laws.fixed_text_within_limits_in.Goals as goal

pub returns : goal.returns
returns c = within_always_in
