-- From what is read of a second script to what `same` answers.
use Rattle.std.proofs.Common.{◌≡◌, ◌≢◌, ◌∙◌, ℕ, List, Bool, false, Option, Err, inl, inr, refl, sym, ap, subst}
use Rattle.source_text.specs.Source.{IsRefusal, max_bytes}
use Rattle.source_text.specs.declared.fault.Fault.{Fault}
use Rattle.source_text.specs.declared.fault.Fault.TheVariants.{NotUtf8, TooLong, OutOfMemory, ReadFailed, Usage}
use Rattle.commands.specs.declared.hint.Hint.TheVariants.{Nothing}
use Rattle.commands.specs.Refused.{at_no_place, place_of}
use Rattle.commands.specs.WholeTexts.{ReadsUpTo}
use Rattle.commands.specs.declared.command.Command.TheVariants.{Same}
use Rattle.commands.specs.declared.refused.Refused.{Refused}
use Rattle.language.specs.declared.Language.{Language}
use Rattle.tree.specs.Tree.{Tree}
use Rattle.lint.specs.ReadScripts.{RefusesReading}
use Rattle.lint.specs.Outputs.{IsSecond}
use Rattle.lint.specs.Hints.{IsHint}
use Rattle.lint.specs.Run.{IsSource, RefusesText}
use Rattle.lint.specs.Steps.{AnswersSame, IsOfOther, RefusesAsSecond, RefusesOther}

-- ---- the text of the second file

-- bytes that are no source text are refused as such, at no place and without a hint
pub no_source : (language : Language) (bytes : List ℕ) (fault : Fault) → IsRefusal bytes fault
    → RefusesText language bytes fault × ((0, 0) ≡ place_of bytes fault) × IsHint language bytes fault Nothing
no_source language bytes (NotUtf8 at) why = (why, refl, refl)
no_source language bytes TooLong why = (why, refl, refl)
no_source language bytes _ why = absurd why

-- source text that is no script is refused as such
pub no_script : (language : Language) (bytes : List ℕ) (fault : Fault) → IsSource bytes → RefusesReading language bytes fault → RefusesText language bytes fault
no_script language bytes (NotUtf8 at) source why = absurd why
no_script language bytes TooLong source why = absurd why
no_script language bytes _ source why = (source, why)

-- and so as the text of the second script
pub other_refused : (language : Language) (bytes : List ℕ) (fault : Fault) (first refused : Refused) → IsOfOther first refused → first.fault ≡ fault → RefusesText language bytes fault → (first.line, first.column) ≡ place_of bytes fault
    → IsHint language bytes fault first.hint → RefusesOther language bytes refused
other_refused language bytes fault first refused (inl memory) same why place hinted = inl memory.1
other_refused language bytes fault first refused (inr other) same why place hinted =
    inr (subst (RefusesAsSecond language bytes) (sym other.1) (
      refl,
      other.0,
      subst (RefusesText language bytes) (sym same) why,
      place ∙ ap (place_of bytes) (sym same),
      subst (λ (f : Fault). IsHint language bytes f first.hint) (sym same) hinted,
    ))

-- what it is refused for has words of its own
pub other_told : (language : Language) (bytes : List ℕ) (refused : Refused) → RefusesOther language bytes refused → refused.fault ≢ Usage
other_told language bytes refused (inl memory) usage = absurd (unlike (sym (ap (λ (r : Refused). r.fault) memory) ∙ usage))
  where
    unlike : OutOfMemory ≡ Usage → ⊥
    unlike e = cc
other_told language bytes refused (inr other) usage = absurd (subst (RefusesText language bytes) usage other.2).1

-- ---- the second file

-- it can't be read
pub unread : (language : Language) (n : Tree) (given : Option (List ℕ)) (fault : Fault) (failed : Bool) (refused : Refused) → ReadsUpTo max_bytes given (Err fault) failed
    → refused ≡ at_no_place fault → AnswersSame language n given (Err refused) failed
unread language n given ReadFailed failed refused read is = inl (read, is)
unread language n given OutOfMemory failed refused read is = inr (read, inl is)
unread language n given _ failed refused read is = absurd read

-- it was read, and is refused
pub refused_other : (language : Language) (n : Tree) (given : Option (List ℕ)) (failed : Bool) (second : List ℕ) (refused : Refused) → failed ≡ false → IsSecond Same given second → RefusesOther language second refused → AnswersSame language n given (Err refused) failed
refused_other language n given failed second refused well is (inl memory) = inr (well, inl memory)
refused_other language n given failed second refused well is (inr other) = inr (well, inr (second, is, other))
