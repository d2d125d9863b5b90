use Rattle.std.proofs.Common.{ap, sym, codes, cond}
use Rattle.printer.proofs.emitter.chunk_start.Goals as goal

pub returns-then-is_first : goal.returns-then-is_first
returns-then-is_first c = sym (ap (λ b. codes (cond b "`" "}")) c.if-is_first.true)

pub returns-else-is_first : goal.returns-else-is_first
returns-else-is_first c = sym (ap (λ b. codes (cond b "`" "}")) c.if-is_first.false)
