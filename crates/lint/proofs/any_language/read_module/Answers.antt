use Rattle.std.proofs.Common.{[], inl}
use Rattle.language.specs.declared.Language.TheVariants.{Module}
use Rattle.lint.proofs.AnyLanguages.{first_accepts, tried_last}
use Rattle.lint.proofs.any_language.read_module.Goals as goal

pub returns-in-Ok : goal.returns-in-Ok
returns-in-Ok c = (first_accepts Module [] c.args.source.now c.in-Ok.script c.in-Ok.ensures.of_script c.in-Ok.ensures.reading, c.in-Ok.ensures.reading)

pub returns-in-OutOfMemory : goal.returns-in-OutOfMemory
returns-in-OutOfMemory c = inl c.in-OutOfMemory.is

pub returns-in_default : goal.returns-in_default
returns-in_default c = tried_last Module c.args.source.now c.args.before c.in-Err.refused c.further.result c.in-Err.ensures.of_refusal c.in_default.not-OutOfMemory c.in-Err.ensures.refused c.further.ensures
