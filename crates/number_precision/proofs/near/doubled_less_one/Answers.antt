use Rattle.std.proofs.Common.{arith}
use Rattle.number_precision.proofs.Nearness.{doubled-turn, doubled-room}
use Rattle.number_precision.proofs.near.doubled_less_one.Goals as goal

pub multiply-requires : goal.multiply-requires
multiply-requires c =
    let l = c.loop-index in
    doubled-room c.args.digits.now l.index l.big c.digit-in-loop-index.result c.requires.digits c.requires.few c.loop-index-test.true l.invariant.1 c.digit-in-loop-index.ensures.value

pub loop-index-preserved : goal.loop-index-preserved
loop-index-preserved c =
    let l = c.loop-index in
    let turn = doubled-turn c.args.digits.now l.index l.big c.digit-in-loop-index.result c.requires.digits c.requires.few c.loop-index-test.true l.invariant.1 c.digit-in-loop-index.ensures.value in
    (omega arith, rw c.multiply.ensures turn)
