use Rattle.std.proofs.Common.{◌∷◌, inl}
use Rattle.language.specs.declared.Language.TheVariants.{Base}
use Rattle.lint.specs.Hints.{later_languages}
use Rattle.lint.proofs.AnyLanguages.{first_accepts, one_first, tried_later, tries_one}
use Rattle.lint.proofs.any_language.read_any.Goals as goal

pub returns-in-Ok-clause-tries : goal.returns-in-Ok-clause-tries
returns-in-Ok-clause-tries c = (first_accepts Base (later_languages Base) c.args.source.now c.in-Ok.script c.in-Ok.ensures.of_script c.in-Ok.ensures.reading, c.in-Ok.ensures.reading)

pub returns-in-Ok-clause-one : goal.returns-in-Ok-clause-one
returns-in-Ok-clause-one c = λ other first.
    one_first (Base ∷ later_languages Base) c.args.source.now other c.in-Ok.script.language first
    (first_accepts Base (later_languages Base) c.args.source.now c.in-Ok.script c.in-Ok.ensures.of_script c.in-Ok.ensures.reading)

pub returns-in-OutOfMemory-clause-tries : goal.returns-in-OutOfMemory-clause-tries
returns-in-OutOfMemory-clause-tries c = inl c.in-OutOfMemory.is

pub returns-in_default : goal.returns-in_default
returns-in_default c =
    let tries = tried_later c.args.source.now c.in-Err.refused c.read_later.result c.in-Err.ensures.of_refusal c.in_default.not-OutOfMemory c.in-Err.ensures.refused c.read_later.ensures in
    record { tries = tries; one = tries_one c.args.source.now c.read_later.result tries }
