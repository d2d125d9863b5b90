use Rattle.std.proofs.Common.{arith}
use Rattle.segmented_vec.proofs.segmented_vec.push_segment.Goals as goal

pub returns-clause-begun : goal.returns-clause-begun
returns-clause-begun g c = record {
  chunk = record { items = c.in_ok-items.items };
  empty = c.in_ok-items.ensures.items;
  room = omega (arith, c.room_after.ensures.chunk, c.in_ok-items.ensures.capacity);
  behind = c.in_ok-push.ensures.items;
}
