use Rattle.std.proofs.Common.{sym, ◌∙◌, []}
use Rattle.printer.proofs.Standings.{failed_puts, flushed_puts}
use Rattle.printer.proofs.output_buffer.write_on.Goals as goal

pub returns-then-has_failed : goal.returns-then-has_failed
returns-then-has_failed g c = failed_puts _ _ c.args.waiting.now [] [] (sym c.has_failed.ensures ∙ c.if-has_failed.true)

pub returns-in-Ok : goal.returns-in-Ok
returns-in-Ok g c = flushed_puts _ _ _ _ c.args.waiting.now c.write_text.result (sym c.has_failed.ensures ∙ c.if-has_failed.false) c.write_text.ensures

pub returns-in-Err : goal.returns-in-Err
returns-in-Err g c = flushed_puts _ _ _ _ c.args.waiting.now c.write_text.result (sym c.has_failed.ensures ∙ c.if-has_failed.false) c.write_text.ensures
