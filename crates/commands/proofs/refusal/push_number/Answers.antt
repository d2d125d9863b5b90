use Rattle.std.proofs.Common.{arith, length, length-append, ap}
use Rattle.std.specs.Fmt.{decimal}
use Rattle.std.proofs.lemmas.Fmt.{length-decimal-le}
use Rattle.commands.proofs.refusal.push_number.Goals as goal

pub push_number-requires : goal.push_number-requires
push_number-requires c = omega (arith, length-decimal-le 20 c.args.number (omega arith) (omega arith) (omega arith))

pub returns-clause-short : goal.returns-clause-short
returns-clause-short c = omega (arith, length-decimal-le 20 c.args.number (omega arith) (omega arith) (omega arith), ap length c.push_number.ensures, length-append c.args.line.now (decimal c.args.number))
