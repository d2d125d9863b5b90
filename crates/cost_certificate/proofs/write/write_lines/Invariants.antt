use Rattle.std.proofs.Common.{◌≡◌, false}
use Rattle.cost_certificate.specs.Sent.{Sent}
use Rattle.cost_certificate.proofs.WrittenLines.{upto}
use Rattle.cost_certificate.proofs.write.write_lines.Given as goal

abbrev pub invariant-loop-index : goal.invariant-loop-index
invariant-loop-index g l = record {
  written : Sent (g.W.Sink.taken l.fn.writer) (g.W.Sink.taken l.writer) l.piece (upto l.table.rows.items l.table.total l.index);
  sound : g.W.Sink.failed l.writer ≡ false;
}
