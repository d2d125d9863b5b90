use Rattle.std.proofs.Common.{length-take-le, arith, sym}
use Rattle.rules.proofs.settings_fault.beginning.Goals as goal

pub slice_bounds-result-end : goal.slice_bounds-result-end
slice_bounds-result-end c = sym (length-take-le 40 c.args.bytes.now (omega (arith, c.requires)))

pub returns-clause-len : goal.returns-clause-len
returns-clause-len c = length-take-le 40 c.args.bytes.now (omega (arith, c.requires))
