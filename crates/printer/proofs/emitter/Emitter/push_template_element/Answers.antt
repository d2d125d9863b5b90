use Rattle.std.proofs.Common.{◌++◌}
use Rattle.printer.proofs.WrittenTexts.{writes_then, writes_as}
use Rattle.printer.proofs.emitter.Emitter.push_template_element.Goals as goal

pub returns : goal.returns
returns g c =
    writes_as _ _ _ _
    (λ i. c.chunk_start.ensures i ++ c.args.text.now ++ c.chunk_end.ensures i)
    (writes_then _ _ _ _ _ (writes_then _ _ _ _ _ c.push.ensures.written c.push-2.ensures.written) c.push-3.ensures.written)
