use Rattle.std.proofs.Common.{[], ◌∷◌, inl, subst}
use Rattle.language.specs.declared.Language.TheVariants.{Script, Module}
use Rattle.lint.specs.declared.any_language.RefusedIn.{RefusedIn}
use Rattle.lint.specs.AnyLanguage.{TriesOf}
use Rattle.lint.proofs.AnyLanguages.{first_accepts, tried_further}
use Rattle.lint.proofs.any_language.read_later.Goals as goal

pub returns-in-Ok : goal.returns-in-Ok
returns-in-Ok c = (first_accepts Script (Module ∷ []) c.args.source.now c.in-Ok.script c.in-Ok.ensures.of_script c.in-Ok.ensures.reading, c.in-Ok.ensures.reading)

pub returns-in-OutOfMemory : goal.returns-in-OutOfMemory
returns-in-OutOfMemory c = inl c.in-OutOfMemory.is

pub returns-in_default : goal.returns-in_default
returns-in_default c = tried_further Script (Module ∷ []) c.args.source.now c.args.before c.in-Err.refused c.read_module.result c.in-Err.ensures.of_refusal c.in_default.not-OutOfMemory c.in-Err.ensures.refused
    (subst (λ (r : RefusedIn). TriesOf (Module ∷ []) c.args.source.now r c.read_module.result) c.further.ensures c.read_module.ensures)
