use Rattle.tree.specs.KeptFlags.{flags_in-bits_of}
use Rattle.tree.proofs.flag_bits.FlagBits.of.Goals as goal

pub returns : goal.returns
returns c = rw (c.from.ensures, c.from-2.ensures, c.from-3.ensures, c.from-4.ensures, c.from-5.ensures, c.from-6.ensures) (flags_in-bits_of c.args.flags)
