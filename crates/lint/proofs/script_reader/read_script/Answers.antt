use Rattle.std.proofs.Common.{◌≡◌, ◌∙◌, ap, sym, Some}
use Rattle.early_errors.specs.Early.{errors, least_error}
use Rattle.early_errors.proofs.FirstError.{least_among, least_none}
use Rattle.early_errors.proofs.StartPlaces.{error_place}
use Rattle.lint.proofs.OneScript.{only_script, has_early_error, refused_reading, passed_on}
use Rattle.lint.specs.ReadScripts.{RefusesReading}
use Rattle.lint.proofs.script_reader.read_script.Goals as goal
use Rattle.language.specs.Claims.{max_open}

pub returns-clause-accepted : goal.returns-clause-accepted
returns-clause-accepted c = record {
  source = c.in_ok-parsed.ensures.source.0;
  derived = c.in_ok-parsed.ensures.derived;
  lawful = least_none (errors c.in_ok-parsed.parsed.program) (ap least_error (sym c.program.ensures) ∙ sym c.in_ok-number.ensures ∙ c.in-None.is);
}

pub returns-clause-only : goal.returns-clause-only
returns-clause-only c = only_script c.args.language c.args.source.now c.in_ok-parsed.parsed.program c.in_ok-parsed.parsed.pairs.items c.in_ok-parsed.ensures.derived

pub returns-in-Some-clause-refused : goal.returns-in-Some-clause-refused
returns-in-Some-clause-refused c =
    let text = c.args.source.now in
    let n = c.in_ok-parsed.parsed.program in
    let pairs = c.in_ok-parsed.parsed.pairs.items in
    let derived = c.in_ok-parsed.ensures.derived in
    let found : least_error n ≡ Some (c.in-Some.number, c.in-Some.at) = ap least_error (sym c.program.ensures) ∙ sym c.in_ok-number.ensures ∙ c.in-Some.is in
    let place = error_place c.args.language text n pairs c.in_ok-parsed.ensures.source.0 (max_open, derived.1) (c.in-Some.number, c.in-Some.at) (least_among (errors n) (c.in-Some.number, c.in-Some.at) found) in
    (place, has_early_error c.args.language text n pairs c.in-Some.number c.in-Some.at derived found)

pub returns-in_err-parsed-clause-refused : goal.returns-in_err-parsed-clause-refused
returns-in_err-parsed-clause-refused c =
    let is = c.in_err-parsed.ensures in
    passed_on (RefusesReading c.args.language c.args.source.now) c.from_residual.result c.in_err-parsed.field-0.0 c.from_residual.ensures.1 (refused_reading c.args.language c.args.source.now c.in_err-parsed.field-0.0 is.refused is.complete is.long)
