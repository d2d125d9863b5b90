use Rattle.std.proofs.Common.{rules}
use Rattle.tokens.proofs.scanner.is_point_before_digit.Goals as goal

pub returns : goal.returns
returns c = search rules
