use Rattle.printer.proofs.WrittenTexts.{writes_then}
use Rattle.printer.proofs.emitter.Emitter.push_private_text.Goals as goal

pub returns : goal.returns
returns g c = writes_then _ _ _ _ _ c.push.ensures.written c.push-2.ensures.written
