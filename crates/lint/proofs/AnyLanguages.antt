-- From how a text is read in one language to what all make of it.
use Rattle.std.proofs.Common.{◌≡◌, ◌≢◌, ◌∙◌, ℕ, List, [], ◌∷◌, Bool, true, false, cond, Result, Ok, Err, inl, inr, sym, ap, subst}
use Rattle.std.specs.Prelude.{IfOk}
use Rattle.source_text.specs.declared.fault.Fault.{Fault}
use Rattle.source_text.specs.declared.fault.Fault.TheVariants.{Syntax, Early, OutOfMemory, Usage}
use Rattle.commands.specs.Refused.{HasPlace}
use Rattle.commands.specs.declared.refused.Refused.{Refused}
use Rattle.language.specs.declared.Language.{Language}
use Rattle.language.specs.declared.Language.TheVariants.{Base}
use Rattle.lint.specs.declared.any_language.RefusedIn.{RefusedIn}
use Rattle.lint.specs.declared.any_language.ScriptIn.{ScriptIn}
use Rattle.lint.specs.AnyLanguage.{IsFirst, IsFirstOf, IsScriptIn, IsTold, Refuses, RefusesEach, RefusesEachOf, Tries, TriesOf, further, is_further}
use Rattle.lint.specs.Hints.{IsAccepted, later_languages}
use Rattle.lint.specs.ReadScripts.{RefusesReading}
use Rattle.lint.proofs.HintAnswers.{refused_is_unaccepted}

-- there is one first language
pub one_first : (languages : List Language) (text : List ℕ) (a b : Language) → IsFirstOf languages text a → IsFirstOf languages text b → a ≡ b
one_first [] text a b p q = absurd p
one_first (tried ∷ others) text a b (inl p) (inl q) = p.1 ∙ sym q.1
one_first (tried ∷ others) text a b (inl p) (inr q) = absurd (q.0 p.0)
one_first (tried ∷ others) text a b (inr p) (inl q) = absurd (p.0 q.0)
one_first (tried ∷ others) text a b (inr p) (inr q) = one_first others text a b p.1 q.1

-- ---- refusals

abbrev RefusesSo : List ℕ → RefusedIn → Type 0
RefusesSo text refused = Refuses refused.language text refused.fault

one_of : (text : List ℕ) (first second : RefusedIn) (is : Bool) → RefusesSo text first → RefusesSo text second → RefusesSo text (cond is second first)
one_of text first second true p q = q
one_of text first second false p q = p

each_refuses : (languages : List Language) (text : List ℕ) (before refused : RefusedIn) → RefusesSo text before → RefusesEachOf languages text before refused → RefusesSo text refused
each_refuses [] text before refused p same = subst (RefusesSo text) (sym same) p
each_refuses (tried ∷ others) text before refused p (fault, why, rest) =
    let next : RefusedIn = record { language = tried; fault = fault } in
    each_refuses others text (further before next) refused (one_of text before next (is_further before.fault fault) p why) rest

-- the refusal of all is one in its language
pub furthest_refuses : (text : List ℕ) (refused : RefusedIn) → RefusesEach text refused → RefusesSo text refused
furthest_refuses text refused (fault, why, rest) = each_refuses (later_languages Base) text (record { language = Base; fault = fault }) refused why rest

placed : (language : Language) (text : List ℕ) (fault : Fault) → RefusesReading language text fault → HasPlace text fault
placed language text (Syntax at) why = why.0
placed language text (Early number at) why = why.0
placed language text _ why = tt

no_place : (text : List ℕ) (fault : Fault) → fault ≡ OutOfMemory → HasPlace text fault
no_place text fault is = subst (HasPlace text) (sym is) tt

-- its place is one of the text
pub has_place : (text : List ℕ) (refused : RefusedIn) → Tries text (Err refused) → HasPlace text refused.fault
has_place text refused (inl memory) = no_place text refused.fault memory
has_place text refused (inr why) = placed refused.language text refused.fault (furthest_refuses text refused why).1

-- ---- one language more

-- it accepts the text, as the first
pub first_accepts : (tried : Language) (others : List Language) (text : List ℕ) (script : ScriptIn) → script.language ≡ tried → IsScriptIn text script → IsFirstOf (tried ∷ others) text script.language
first_accepts tried others text script is reading =
    inl (subst (λ (l : Language). IsAccepted l text) is (script.parsed.program, script.parsed.pairs.items, reading.accepted), is)

-- it is refused as it is read
same_language : (text : List ℕ) (tried : Language) (refused : RefusedIn) → refused.language ≡ tried → refused ≡ record { language = tried; fault = refused.fault }
same_language text tried refused is = ap (λ (l : Language). record { language = l; fault = refused.fault }) is

-- it refuses the text, and others are tried
pub tried_further : (tried : Language) (others : List Language) (text : List ℕ) (before refused : RefusedIn) (result : Result ScriptIn RefusedIn) → refused.language ≡ tried → refused.fault ≢ OutOfMemory
    → RefusesReading tried text refused.fault → TriesOf others text (further before refused) result → TriesOf (tried ∷ others) text before result
tried_further tried others text before refused (Ok script) is other why (first, reading) = (inr (refused_is_unaccepted tried text refused.fault why other, first), reading)
tried_further tried others text before refused (Err last) is other why (inl memory) = inl memory
tried_further tried others text before refused (Err last) is other why (inr rest) =
    inr (refused.fault, (other, why), subst (λ (r : RefusedIn). RefusesEachOf others text (further before r) last) (same_language text tried refused is) rest)

-- the first refuses it, and others are tried
pub tried_later : (text : List ℕ) (refused : RefusedIn) (result : Result ScriptIn RefusedIn) → refused.language ≡ Base → refused.fault ≢ OutOfMemory
    → RefusesReading Base text refused.fault → TriesOf (later_languages Base) text refused result → Tries text result
tried_later text refused (Ok script) is other why (first, reading) = (inr (refused_is_unaccepted Base text refused.fault why other, first), reading)
tried_later text refused (Err last) is other why (inl memory) = inl memory
tried_later text refused (Err last) is other why (inr rest) =
    inr (refused.fault, (other, why), subst (λ (r : RefusedIn). RefusesEachOf (later_languages Base) text r last) (same_language text Base refused is) rest)

-- so it is the one first language
pub tries_one : (text : List ℕ) (result : Result ScriptIn RefusedIn) → Tries text result → IfOk result (λ script. (other : Language) → IsFirst text other → other ≡ script.language)
tries_one text (Ok script) tries = λ other first. one_first (Base ∷ later_languages Base) text other script.language first tries.0
tries_one text (Err refused) tries = tt

-- the last refuses it
pub tried_last : (tried : Language) (text : List ℕ) (before refused last : RefusedIn) → refused.language ≡ tried → refused.fault ≢ OutOfMemory → RefusesReading tried text refused.fault
    → last ≡ further before refused → TriesOf (tried ∷ []) text before (Err last)
tried_last tried text before refused last is other why same = inr (refused.fault, (other, why), same ∙ ap (further before) (same_language text tried refused is))

-- ---- in words

not_usage : (language : Language) (text : List ℕ) (fault : Fault) → RefusesReading language text fault → fault ≢ Usage
not_usage language text fault why usage = absurd (subst (RefusesReading language text) usage why)

memory_no_usage : (fault : Fault) → fault ≡ OutOfMemory → fault ≢ Usage
memory_no_usage fault is usage = unlike (sym is ∙ usage)
  where
    unlike : OutOfMemory ≡ Usage → ⊥
    unlike e = cc

pub told_no_usage : (text : List ℕ) (refused : RefusedIn) (told : Refused) → Tries text (Err refused) → IsTold text refused told → told.fault ≢ Usage
told_no_usage text refused told tries (inl (memory, is)) = memory_no_usage told.fault (ap (λ (r : Refused). r.fault) is)
told_no_usage text refused told (inl memory) (inr (other, fault, second, place, hint)) = absurd (other memory)
told_no_usage text refused told (inr why) (inr (other, fault, second, place, hint)) = λ usage. not_usage refused.language text refused.fault (furthest_refuses text refused why).1 (sym fault ∙ usage)
