-- From how a text is read to whether it is accepted.
use Rattle.std.proofs.Common.{◌≡◌, ◌≢◌, ℕ, List, Bool, false, Result, Ok, Err, refl, sym, subst}
use Rattle.std.specs.Prelude.{IfOk}
use Rattle.std.specs.declared.alloc.AllocError.{AllocError}
use Rattle.source_text.specs.declared.fault.Fault.{Fault}
use Rattle.source_text.specs.declared.fault.Fault.TheVariants.{Syntax, TooDeep, Early, OutOfMemory}
use Rattle.language.specs.declared.Language.{Language}
use Rattle.language.specs.Claims.{max_open}
use Rattle.lint.specs.Hints.{IsAccepted, TellsAccepted}
use Rattle.lint.specs.ReadScripts.{RefusesReading}

-- what is refused, though memory wasn't, is accepted with no tree
pub refused_is_unaccepted : (language : Language) (text : List ℕ) (fault : Fault) → RefusesReading language text fault → fault ≢ OutOfMemory → IsAccepted language text → ⊥
refused_is_unaccepted language text (Syntax at) refused other (n, P, is) = refused.1 n P (max_open, is.derived.1)
refused_is_unaccepted language text TooDeep refused other (n, P, is) = refused.1 n P is.derived
refused_is_unaccepted language text (Early number at) refused other (n, P, is) = refused.1.unlawful n P (max_open, is.derived.1) is.lawful
refused_is_unaccepted language text OutOfMemory refused other accepted = other refl
refused_is_unaccepted language text _ refused other accepted = absurd refused

-- so it is told, unless memory was refused
pub tells_refused : (language : Language) (text : List ℕ) (fault : Fault) (result : Result Bool AllocError) → RefusesReading language text fault
    → IfOk result (λ accepted. accepted ≡ false) → IfOk result (λ _. fault ≢ OutOfMemory) → IfOk result (TellsAccepted language text)
tells_refused language text fault (Ok accepted) refused is other = subst (TellsAccepted language text) (sym is) (refused_is_unaccepted language text fault refused other)
tells_refused language text fault (Err error) refused is other = tt
