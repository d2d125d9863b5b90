use Rattle.std.proofs.Common.{sym, ◌∙◌}
use Rattle.tokens.proofs.Sets.{mark_bits}
use Rattle.tokens.proofs.scanner.begins_punctuator.Goals as goal

pub returns : goal.returns
returns c = c.is_in.ensures ∙ mark_bits c.args.c (sym c.is_ascii.ensures ∙ c.if-not-is_ascii.false)
