use Rattle.std.proofs.Common.{◌-◌, ◌<◌, ◌∙◌, arith}
use Rattle.std.proofs.Math.Dec.{lit≤}
use Rattle.std.proofs.Math.Nat.{lt_of_lt_of_le}
use Rattle.std.specs.Str.Parse.{digits_value}
use Rattle.std.proofs.lemmas.Str.Parse.{digits_value-take-le}
use Rattle.number_precision.proofs.Far.{far_down, far_up, near-by-tens}
use Rattle.number_precision.proofs.Nearness.{few}
use Rattle.number_precision.proofs.near.is_near.Goals as goal
use Rattle.number_precision.proofs.near.is_near.Goals.{then-tens-gt400-via-then-tens-gt400, then-tens-gt400-via-else-tens-gt400+then-tenths-gt500}

pub returns-then-tens-gt400 : goal.returns-then-tens-gt400
returns-then-tens-gt400 c =
    let d = digits_value 10 c.args.digits.now in
    let positive : 0 < d = lt_of_lt_of_le c.requires.positive (digits_value-take-le 10 c.args.digits.now 1 (lit≤ tt)) in
    elim c.then-tens-gt400.branch [
      | then-tens-gt400-via-then-tens-gt400 w ↦ far_up d c.args.tens c.args.tenths c.args.binary.digits c.args.binary.twos positive c.requires.binary.0 c.requires.binary.1 (omega arith)
      | then-tens-gt400-via-else-tens-gt400+then-tenths-gt500 w ↦
          far_down d c.args.tens c.args.tenths c.args.binary.digits c.args.binary.twos positive (few c.args.digits.now c.requires.digits c.requires.few) (omega arith)
    ]

pub returns : goal.returns
returns c =
    c.is_within.ensures
    ∙ near-by-tens (digits_value 10 c.args.digits.now) c.args.tens c.args.tenths c.args.binary.digits c.args.binary.twos (c.args.tens - c.min-common.result) (c.args.tenths - c.min-common.result) c.min-common.result (omega arith)
    (omega arith)
