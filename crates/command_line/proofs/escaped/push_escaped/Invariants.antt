use Rattle.std.proofs.Common.{◌≡◌, ◌++◌, false, flat_map}
use Rattle.std.specs.Prelude.{encode_utf8_all}
use Rattle.command_line.specs.Sent.{Sent}
use Rattle.command_line.specs.Shown.{shown}
use Rattle.command_line.proofs.escaped.push_escaped.Given as goal

-- what was yielded is written but for what waits, each character as it is shown
abbrev pub invariant-loop-c : goal.invariant-loop-c
invariant-loop-c g l = record {
  written : Sent (g.W.Sink.taken l.fn.writer) (g.W.Sink.taken l.writer) l.waiting (l.fn.waiting ++ encode_utf8_all (flat_map (shown l.has_lines) l.yielded));
  sound : g.W.Sink.failed l.writer ≡ false;
}
