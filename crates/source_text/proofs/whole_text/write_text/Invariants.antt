use Rattle.std.proofs.Common.{◌≡◌, ◌≤◌, ◌-◌, take, length, false}
use Rattle.std.specs.Io.KnownBytes.{Appends}
use Rattle.source_text.proofs.whole_text.write_text.Given as goal

abbrev pub invariant-loop-at : goal.invariant-loop-at
invariant-loop-at g l = record {
  within : l.at ≤ length l.text;
  taken : Appends (g.W.Sink.taken l.initial.writer) (g.W.Sink.taken l.writer) (take l.at l.text);
  sound : g.W.Sink.failed l.writer ≡ false;
}

abbrev pub decreases-loop-at : goal.decreases-loop-at
decreases-loop-at g l = length l.text - l.at
