use Rattle.std.proofs.Common.{refl}
use Rattle.printer.proofs.Standings.{direct_puts}
use Rattle.printer.proofs.output_buffer.put_beyond.Goals as goal

pub returns : goal.returns
returns g c = direct_puts _ _ _ _ _ c.flush.new.room _ c.args.bytes.now c.flush.ensures.empty refl c.flush.ensures.done c.write_on.ensures
