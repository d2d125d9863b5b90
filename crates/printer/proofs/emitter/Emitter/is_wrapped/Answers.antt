use Rattle.std.proofs.Common.{◌∙◌, sym}
use Rattle.printer.proofs.WrapFlags.{flag_is}
use Rattle.printer.proofs.emitter.Emitter.is_wrapped.Goals as goal

pub returns : goal.returns
returns c = c.is_wrapped.ensures ∙ sym (flag_is c.args.self.now.wraps.flags.now 0)
