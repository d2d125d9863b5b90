use Rattle.std.proofs.Common.{◌∙◌, subst}
use Rattle.commands.specs.Refusal.{WritesLine, refusal_line}
use Rattle.command_line.proofs.Memory.{memory_said}
use Rattle.command_line.proofs.Tips.{line_written, mistake_said}
use Rattle.command_line.proofs.mistake.write_mistake.Goals as goal

-- what is to be said was written
pub returns-in-Ok-clause-said : goal.returns-in-Ok-clause-said
returns-in-Ok-clause-said g c =
    let said = c.in-Ok.ensures in
    mistake_said _ said.0 c.deref.result.now _ _ _ (c.deref.ensures ∙ said.1) (line_written _ c.write_escaped.result _ _ _ c.write_escaped.ensures)

-- memory was refused for what is to be said
pub returns-in-Err-clause-said : goal.returns-in-Err-clause-said
returns-in-Err-clause-said g c = memory_said _ _ _ _ (subst (λ refused. WritesLine (refusal_line refused) (g.W.Sink.taken c.args.errors.now) (g.W.Sink.taken c.write_refusal.new.writer) (g.W.Sink.failed c.write_refusal.new.writer)) c.at_no_place.ensures c.write_refusal.ensures.line)
