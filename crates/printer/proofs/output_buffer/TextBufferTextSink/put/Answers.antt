use Rattle.std.proofs.Common.{refl}
use Rattle.printer.proofs.Standings.{grown_puts, refused_puts}
use Rattle.printer.proofs.output_buffer.TextBufferTextSink.put.Goals as goal

pub returns-in-Ok : goal.returns-in-Ok
returns-in-Ok c = grown_puts _ _ c.args.text.now _ _ c.if-self.false c.if-self.false c.in-Ok.ensures.bytes

pub returns-in-Err : goal.returns-in-Err
returns-in-Err c = refused_puts _ _ c.args.text.now _ _ c.if-self.false refl c.in-Err.ensures.bytes
