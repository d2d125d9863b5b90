use Rattle.std.proofs.Common.{◌+◌, arith, rules}
use Rattle.commands.proofs.ReadTexts.{enough_read, none_left}
use Rattle.commands.proofs.bounded_read.read_up_to.Goals as goal

pub returns-in-Err : goal.returns-in-Err
returns-in-Err g c = search rules

pub returns : goal.returns
returns g c = (
  enough_read (g.R.Feed.left c.args.reader.now) (g.R.Feed.left c.loop-room.reader) c.loop-room.bytes.items (c.args.limit + 1)
      (omega arith) c.loop-room.invariant.given,
  c.loop-room.invariant.sound,
)

pub returns-then-count-eq0 : goal.returns-then-count-eq0
returns-then-count-eq0 g c =
    none_left (g.R.Feed.left c.args.reader.now) (g.R.Feed.left c.loop-room.reader) (g.R.Feed.left c.get.new.self)
    c.loop-room.bytes.items c.get.new.room c.in-Ok.count (c.args.limit + 1) (g.R.Feed.failed c.get.new.self)
    c.if-count-eq0.true (omega arith) c.loop-room.invariant.given c.in-Ok.ensures
