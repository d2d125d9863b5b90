use Rattle.std.proofs.Common.{◌++◌, subst}
use Rattle.source_text.specs.Writing.{WritesText}
use Rattle.command_line.specs.Sent.{Sent}
use Rattle.command_line.specs.Shown.{escaped}
use Rattle.command_line.proofs.SentPieces.{sent_last}
use Rattle.command_line.proofs.escaped.write_escaped.Goals as goal

-- what waited last was written, or a beginning of it
pub returns : goal.returns
returns g c =
    let sent = subst (λ start. Sent (g.W.Sink.taken c.args.writer.now) (g.W.Sink.taken c.push_escaped.new.writer) c.push_escaped.new.waiting (start ++ escaped c.args.text.now)) c.new-waiting.ensures c.in_default.ensures.0 in
    sent_last (g.W.Sink.taken c.args.writer.now) (g.W.Sink.taken c.push_escaped.new.writer) (g.W.Sink.taken c.write_text.new.writer) c.push_escaped.new.waiting (escaped c.args.text.now) c.write_text.result (g.W.Sink.failed c.write_text.new.writer)
    sent
    (subst (λ w. WritesText w c.write_text.result (g.W.Sink.taken c.push_escaped.new.writer) (g.W.Sink.taken c.write_text.new.writer) (g.W.Sink.failed c.write_text.new.writer)) c.as_bytes.ensures c.write_text.ensures)
