use Rattle.std.proofs.Common.{subst}
use Rattle.commands.specs.Refusal.{WritesLine, refusal_line}
use Rattle.command_line.proofs.Memory.{memory_said}
use Rattle.command_line.proofs.mistake.explain.Goals as goal

-- memory was refused: the line of the refusal
pub returns-then-eq-clause-memory : goal.returns-then-eq-clause-memory
returns-then-eq-clause-memory g c = λ _. subst (λ refused. WritesLine (refusal_line refused) (g.W.Sink.taken c.args.errors.now) (g.W.Sink.taken c.write_refusal.new.writer) (g.W.Sink.failed c.write_refusal.new.writer)) c.at_no_place.ensures c.write_refusal.ensures.line

-- memory was refused: its line, as a text without control characters
pub returns-then-eq-clause-said : goal.returns-then-eq-clause-said
returns-then-eq-clause-said g c = λ _. memory_said _ _ _ _ (subst (λ refused. WritesLine (refusal_line refused) (g.W.Sink.taken c.args.errors.now) (g.W.Sink.taken c.write_refusal.new.writer) (g.W.Sink.failed c.write_refusal.new.writer)) c.at_no_place.ensures c.write_refusal.ensures.line)

-- help wasn't shown: the line of the refusal
pub returns-in-Err-clause-lost : goal.returns-in-Err-clause-lost
returns-in-Err-clause-lost g c = λ _ _. subst (λ refused. WritesLine (refusal_line refused) (g.W.Sink.taken c.args.errors.now) (g.W.Sink.taken c.write_refusal-in-Err.new.writer) (g.W.Sink.failed c.write_refusal-in-Err.new.writer)) c.at_no_place-in-Err.ensures c.write_refusal-in-Err.ensures.line
