use Rattle.std.proofs.Common.{Bool, Result, sym, subst}
use Rattle.std.specs.Prelude.{IfOk}
use Rattle.std.specs.declared.alloc.AllocError.{AllocError}
use Rattle.lint.specs.Hints.{TellsAccepted}
use Rattle.lint.proofs.HintAnswers.{tells_refused}
use Rattle.lint.proofs.hints.reads.Goals.{in-Ok, in-Err}
use Rattle.lint.proofs.hints.reads.Goals as goal

pub returns : goal.returns
returns c =
    let tells : Result Bool AllocError → Type 0 = λ r. IfOk r (TellsAccepted c.args.language c.args.source.now) in
    elim c.match-read_script.branch [
      | in-Ok w ↦ subst tells (sym w.result-is) (w.in-Ok.field-0.program, w.in-Ok.field-0.pairs.items, w.in-Ok.ensures.accepted)
      | in-Err w ↦ subst tells (sym w.result-is)
          (tells_refused c.args.language c.args.source.now w.in-Err.fault w.no_script.result w.in-Err.ensures.refused w.no_script.ensures.accepted w.no_script.ensures.memory)
    ]
