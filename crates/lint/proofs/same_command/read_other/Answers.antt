use Rattle.std.proofs.Common.{◌∙◌, ℕ, List, ap, subst, sym}
use Rattle.commands.specs.declared.refused.Refused.{Refused}
use Rattle.commands.specs.Refused.{place_of}
use Rattle.lint.specs.Hints.{IsHint}
use Rattle.lint.specs.ReadScripts.{IsReading, RefusesReading}
use Rattle.lint.proofs.SameAnswers.{no_script, no_source, other_refused}
use Rattle.lint.proofs.same_command.read_other.Goals as goal

pub returns-in-Err-clause-refused : goal.returns-in-Err-clause-refused
returns-in-Err-clause-refused c =
    let why = no_source c.args.language c.args.bytes.now c.in-Err.fault c.in-Err.ensures.refused in
    other_refused c.args.language c.args.bytes.now c.in-Err.fault c.at_no_place.result c.of_second.result c.of_second.ensures (ap (λ (r : Refused). r.fault) c.at_no_place.ensures) why.0 (ap (λ (r : Refused). (r.line, r.column)) c.at_no_place.ensures ∙ why.1)
    (subst (IsHint c.args.language c.args.bytes.now c.in-Err.fault) (sym (ap (λ (r : Refused). r.hint) c.at_no_place.ensures)) why.2)

pub returns-in-Err-read_script-clause-refused : goal.returns-in-Err-read_script-clause-refused
returns-in-Err-read_script-clause-refused c =
    let ok = c.in-Ok.ensures.ok in
    let fault = c.in-Err-read_script.fault in
    let why = subst (λ (t : List ℕ). RefusesReading c.args.language t fault) ok.0 c.in-Err-read_script.ensures.refused in
    other_refused c.args.language c.args.bytes.now fault c.refused_at.result c.of_second-in-Err-read_script.result c.of_second-in-Err-read_script.ensures c.refused_at.ensures.fault (no_script c.args.language c.args.bytes.now fault (ok.1, ok.2) why)
    (c.refused_at.ensures.place ∙ ap (λ (t : List ℕ). place_of t fault) ok.0)
    (subst (λ (t : List ℕ). IsHint c.args.language t fault c.refused_at.result.hint) ok.0 c.refused_at.ensures.hint)

pub returns-in-Ok-read_script-clause-reading : goal.returns-in-Ok-read_script-clause-reading
returns-in-Ok-read_script-clause-reading c =
    let other = c.in-Ok-read_script.other in
    subst (λ (t : List ℕ). IsReading c.args.language t other.program other.pairs.items) c.in-Ok.ensures.ok.0 (record { accepted = c.in-Ok-read_script.ensures.accepted; only = c.in-Ok-read_script.ensures.only })

pub returns-in-Ok-read_script-clause-source : goal.returns-in-Ok-read_script-clause-source
returns-in-Ok-read_script-clause-source c = (c.in-Ok.ensures.ok.1, c.in-Ok.ensures.ok.2)
