use Rattle.std.proofs.Common.{◌∙◌, sym}
use Rattle.printer.proofs.WrapFlags.{flag_is, others_are}
use Rattle.printer.proofs.emitter.Emitter.next_row.Goals as goal

pub returns-clause-flag : goal.returns-clause-flag
returns-clause-flag c = c.take.ensures.flag ∙ sym (flag_is c.args.self.now.wraps.flags.now 0)

pub returns-clause-others : goal.returns-clause-others
returns-clause-others c = c.take.ensures.others ∙ others_are c.args.self.now.wraps.flags.now
