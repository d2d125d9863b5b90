-- The language of a text where each is tried: the first that accepts it; where none does, the text's refusal is that of the language that got furthest.
use Rattle.std.specs.Prelude.{◌≡◌, ◌≢◌, ◌⊎◌, ℕ, Bool, true, false, cond, nat_lt, List, [], ◌∷◌, Result, Ok, Err}
use Rattle.source_text.specs.declared.fault.Fault.{Fault}
use Rattle.source_text.specs.declared.fault.Fault.TheVariants.{Syntax, Early, OutOfMemory}
use Rattle.commands.specs.declared.hint.Hint.{Hint}
use Rattle.commands.specs.declared.hint.Hint.TheVariants.{InBase, InScript, InModule}
use Rattle.commands.specs.declared.refused.Refused.{Refused}
use Rattle.commands.specs.Refused.{no_memory, place_of}
use Rattle.language.specs.declared.Language.{Language}
use Rattle.language.specs.declared.Language.TheVariants.{Base, Script, Module}
use Rattle.lint.specs.declared.any_language.RefusedIn.{RefusedIn}
use Rattle.lint.specs.declared.any_language.ScriptIn.{ScriptIn}
use Rattle.lint.specs.Hints.{IsAccepted, later_languages}
use Rattle.lint.specs.ReadScripts.{IsReading, RefusesReading}

-- the language is the first of these that accepts the text: none before it does
abbrev pub IsFirstOf : List Language → List ℕ → Language → Type 0
IsFirstOf [] text language = ⊥
IsFirstOf (tried ∷ others) text language =
    (IsAccepted tried text × (language ≡ tried)) ⊎ ((IsAccepted tried text → ⊥) × IsFirstOf others text language)

-- it is the first of all, in their order
abbrev pub IsFirst : List ℕ → Language → Type 0
IsFirst text language = IsFirstOf (Base ∷ later_languages Base) text language

-- whether a second refusal of a text got further than a first: each got further than a syntax error but one at no later place; and an early error, for which
-- the text was read to its end, than one at an earlier place
abbrev pub is_further : Fault → Fault → Bool
is_further (Syntax first) (Syntax second) = nat_lt first second
is_further (Syntax first) second = true
is_further (Early number first) (Early other second) = nat_lt first second
is_further first second = false

-- of two refusals the one that got further; the first where both got as far
abbrev pub further : RefusedIn → RefusedIn → RefusedIn
further first second = cond (is_further first.fault second.fault) second first

-- a text is refused in a language for a reason of its own
abbrev pub Refuses : Language → List ℕ → Fault → Type 0
Refuses language text fault = (fault ≢ OutOfMemory) × RefusesReading language text fault

-- each of these languages refuses the text; of their refusals, and one before them, this got furthest
abbrev pub RefusesEachOf : List Language → List ℕ → RefusedIn → RefusedIn → Type 0
RefusesEachOf [] text before refused = refused ≡ before
RefusesEachOf (tried ∷ others) text before refused =
    (fault : Fault) × Refuses tried text fault × RefusesEachOf others text (further before (record { language = tried; fault = fault })) refused

-- each language refuses the text, and this refusal got furthest
abbrev pub RefusesEach : List ℕ → RefusedIn → Type 0
RefusesEach text refused =
    (fault : Fault) × Refuses Base text fault × RefusesEachOf (later_languages Base) text (record { language = Base; fault = fault }) refused

-- a script of the language was read
abbrev pub IsScriptIn : List ℕ → ScriptIn → Type 0
IsScriptIn text script = IsReading script.language text script.parsed.program script.parsed.pairs.items

-- what these languages make of a text, behind a refusal of it: the script in the first that accepts it; or the refusal that got furthest; or memory was refused
abbrev pub TriesOf : List Language → List ℕ → RefusedIn → Result ScriptIn RefusedIn → Type 0
TriesOf languages text before (Ok script) = IsFirstOf languages text script.language × IsScriptIn text script
TriesOf languages text before (Err refused) = (refused.fault ≡ OutOfMemory) ⊎ RefusesEachOf languages text before refused

-- what all make of it
abbrev pub Tries : List ℕ → Result ScriptIn RefusedIn → Type 0
Tries text (Ok script) = IsFirst text script.language × IsScriptIn text script
Tries text (Err refused) = (refused.fault ≡ OutOfMemory) ⊎ RefusesEach text refused

-- what a refusal says of its language
abbrev pub hint_in : Language → Hint
hint_in Base = InBase
hint_in Script = InScript
hint_in Module = InModule

-- the refusal of a text in a language, in words; that memory is refused speaks of none
abbrev pub IsTold : List ℕ → RefusedIn → Refused → Type 0
IsTold text refused told =
    ((refused.fault ≡ OutOfMemory) × (told ≡ no_memory))
    ⊎ ((refused.fault ≢ OutOfMemory) × (told.fault ≡ refused.fault) × (told.in_second ≡ false) × ((told.line, told.column) ≡ place_of text refused.fault)
    × (told.hint ≡ hint_in refused.language))
