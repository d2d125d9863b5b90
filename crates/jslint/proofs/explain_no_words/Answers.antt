use Rattle.std.proofs.Common.{◌≡◌, inl, subst}
use Rattle.commands.specs.Refusal.{WritesLine, refusal_line, status_of}
use Rattle.jslint.proofs.explain_no_words.Goals as goal

-- memory was refused: the line of the refusal
pub returns-in-OutOfMemory : goal.returns-in-OutOfMemory
returns-in-OutOfMemory g c = (
  subst (λ refused. c.write_refusal.result ≡ status_of refused.fault) c.at_no_place.ensures c.write_refusal.ensures.status,
  inl (subst (λ refused. WritesLine (refusal_line refused) (g.W.Sink.taken c.args.errors.now) (g.W.Sink.taken c.write_refusal.new.writer) (g.W.Sink.failed c.write_refusal.new.writer)) c.at_no_place.ensures c.write_refusal.ensures.line),
)
