use Rattle.std.proofs.Common.{arith}
use Rattle.regular_expressions.proofs.Numbers.{exceeds_at}
use Rattle.regular_expressions.proofs.count.number_within.Goals as goal

pub returns-then-value-limit-clause-none : goal.returns-then-value-limit-clause-none
returns-then-value-limit-clause-none c =
    exceeds_at c.args.digits.now c.as_bytes-byte-items.result.now c.loop-byte.byte-index c.loop-byte.value c.from-digit.result c.args.limit c.as_bytes-byte-items.ensures.value
    c.loop-byte.invariant.counted c.loop-byte-test.true (omega arith) (omega arith)

pub returns-then-digit-limit-clause-none : goal.returns-then-digit-limit-clause-none
returns-then-digit-limit-clause-none c =
    exceeds_at c.args.digits.now c.as_bytes-byte-items.result.now c.loop-byte.byte-index c.loop-byte.value c.from-digit.result c.args.limit c.as_bytes-byte-items.ensures.value
    c.loop-byte.invariant.counted c.loop-byte-test.true (omega arith) (omega arith)
