use Rattle.std.proofs.Common.{◌*◌, ◌^◌}
use Rattle.std.proofs.Math.Dec.{lit≤}
use Rattle.std.proofs.Math.Nat.{le_of_lt, mul-le-mul, pow-le-pow_right}
use Rattle.number_precision.proofs.Nearness.{has_room, is_room}
use Rattle.number_precision.proofs.near.scaled.Goals as goal

pub times_two_to-requires : goal.times_two_to-requires
times_two_to-requires c = has_room c.args.number (2 ^ 340) 2 c.args.twos 1074 (lit≤ tt) (le_of_lt c.requires.number) c.requires.powers.0 (is_room _ (lit≤ tt))

pub times_ten_to-requires : goal.times_ten_to-requires
times_ten_to-requires c =
    rw c.times_two_to.ensures
    (has_room (c.args.number * 2 ^ c.args.twos) (2 ^ 340 * 2 ^ 1074) 10 c.args.tens 500 (lit≤ tt) (mul-le-mul (le_of_lt c.requires.number) (pow-le-pow_right (lit≤ tt) c.requires.powers.0)) c.requires.powers.1 (is_room _ (lit≤ tt)))
