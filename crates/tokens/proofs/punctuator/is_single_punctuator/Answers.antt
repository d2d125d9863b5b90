use Rattle.std.proofs.Common.{sym, ◌∙◌}
use Rattle.tokens.proofs.Sets.{alone_bits}
use Rattle.tokens.proofs.punctuator.is_single_punctuator.Goals as goal

pub returns : goal.returns
returns c = c.is_in.ensures ∙ alone_bits c.args.b (sym c.is_ascii.ensures ∙ c.if-not-is_ascii.false)
