use Rattle.std.proofs.Common.{◌∙◌, ◌-◌, false, ap, get_or}
use Rattle.wrap_flags.proofs.FlagOfRow.{flag_of_row}
use Rattle.wrap_flags.proofs.wraps.Wraps.is_wrapped.Goals as goal

pub returns : goal.returns
returns c = c.flag_at.ensures ∙ ap (λ bs. get_or bs (c.args.row - 1) false) c.deref.ensures.value ∙ flag_of_row c.args.self.now.flags.items c.args.row c.if-row-lt1.false
