use Rattle.std.proofs.Common.{inr, refl}
use Rattle.commands.specs.Refusal.{refusal_line}
use Rattle.source_text.specs.declared.fault.Fault.TheVariants.{WriteFailed}
use Rattle.commands.specs.Refused.{at_no_place}
use Rattle.jslint.proofs.HelpAnswers.{asked_for}
use Rattle.jslint.proofs.run_arguments.Goals as goal

-- the words are no line: what is said in its place
pub returns-in-Err : goal.returns-in-Err
returns-in-Err g c =
    let said = c.explain.ensures in
    inr (
      refl,
      (
        c.in-Err.error,
        c.in-Err.ensures.kinds,
        (
          said.memory,
          (λ wrong. (said.mistake wrong, said.said wrong)),
          (λ asked. asked_for c.explain.result (refusal_line (at_no_place WriteFailed)) (record {
            before = g.W.Sink.taken c.args.errors.now;
            after = g.W.Sink.taken c.explain.new.errors;
            failed = g.W.Sink.failed c.explain.new.errors;
          }) said.shown (said.lost asked) said.status),
        ),
      ),
    )
