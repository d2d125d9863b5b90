use Rattle.std.proofs.Common.{ap, ◌∙◌}
use Rattle.number_precision.specs.Precision.{loses_precision}
use Rattle.number_precision.proofs.ShortIntegers.{short_kept}
use Rattle.number_precision.proofs.precision.loses_precision.Goals as goal

pub returns-then-is_short_integer : goal.returns-then-is_short_integer
returns-then-is_short_integer c =
    let known = c.is_short_integer.ensures c.if-is_short_integer.true in
    short_kept c.as_bytes.result.now known.0 known.1 ∙ ap loses_precision c.as_bytes.ensures.value
