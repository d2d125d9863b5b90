use Rattle.std.proofs.Common.{◌≡◌, ◌≤◌, ◌+◌, ◌-◌, false, vec_len}
use Rattle.std.specs.Io.KnownBytes.{Consumes}
use Rattle.commands.proofs.bounded_read.read_up_to.Given as goal

abbrev pub invariant-loop-room : goal.invariant-loop-room
invariant-loop-room g l = record {
  within : vec_len l.bytes ≤ l.limit + 1;
  given : Consumes (g.R.Feed.left l.initial.reader) (g.R.Feed.left l.reader) l.bytes.items;
  sound : g.R.Feed.failed l.reader ≡ false;
}

abbrev pub decreases-loop-room : goal.decreases-loop-room
decreases-loop-room g l = l.limit + 1 - vec_len l.bytes
