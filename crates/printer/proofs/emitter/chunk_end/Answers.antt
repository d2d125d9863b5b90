use Rattle.std.proofs.Common.{ap, sym, codes, cond}
use Rattle.printer.proofs.emitter.chunk_end.Goals as goal

pub returns-then-is_last : goal.returns-then-is_last
returns-then-is_last c = sym (ap (λ b. codes (cond b "`" "${")) c.if-is_last.true)

pub returns-else-is_last : goal.returns-else-is_last
returns-else-is_last c = sym (ap (λ b. codes (cond b "`" "${")) c.if-is_last.false)
