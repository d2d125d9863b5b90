-- The hint of a refusal: the first later language that takes a text which is refused in an earlier one.
use Rattle.std.specs.Prelude.{◌≡◌, ◌⊎◌, ℕ, Bool, true, false, List, [], ◌∷◌}
use Rattle.source_text.specs.declared.fault.Fault.{Fault}
use Rattle.source_text.specs.declared.fault.Fault.TheVariants.{Syntax, Early}
use Rattle.commands.specs.declared.hint.Hint.{Hint}
use Rattle.commands.specs.declared.hint.Hint.TheVariants as hints
use Rattle.tree.specs.declared.kind.Pair.{Pair}
use Rattle.tree.specs.Tree.{Tree}
use Rattle.language.specs.declared.Language.{Language}
use Rattle.language.specs.declared.Language.TheVariants.{Base, Script, Module}
use Rattle.early_errors.specs.Accepted.{Accepted}

-- the languages that are later than a language, in their order
abbrev pub later_languages : Language → List Language
later_languages Base = Script ∷ Module ∷ []
later_languages Script = Module ∷ []
later_languages Module = []

-- the hint that stands for a language; none is for the base profile, which is later than no other
abbrev pub hint_for : Language → Hint
hint_for Base = hints.Nothing
hint_for Script = hints.Edition2022
hint_for Module = hints.Module

-- the text is accepted in the language
abbrev pub IsAccepted : Language → List ℕ → Type 0
IsAccepted language text = (n : Tree) × (P : List Pair) × Accepted language text n P

-- whether it is
abbrev pub TellsAccepted : Language → List ℕ → Bool → Type 0
TellsAccepted language text true = IsAccepted language text
TellsAccepted language text false = IsAccepted language text → ⊥

-- the hint stands for the first of these languages in which the text is accepted, and for nothing where it is in none
abbrev pub IsForFirst : List Language → List ℕ → Hint → Type 0
IsForFirst [] text hint = hint ≡ hints.Nothing
IsForFirst (language ∷ others) text hint =
    (IsAccepted language text × (hint ≡ hint_for language)) ⊎ ((IsAccepted language text → ⊥) × IsForFirst others text hint)

-- the hint for a text that is refused in a language: that of the first later one, unless memory was refused while they were asked
abbrev pub IsLaterHint : Language → List ℕ → Hint → Type 0
IsLaterHint language text hint = IsForFirst (later_languages language) text hint ⊎ (hint ≡ hints.Unknown)

-- the hint of a refusal of a text in a language: a syntax error and an early error have one, nothing else does
abbrev pub IsHint : Language → List ℕ → Fault → Hint → Type 0
IsHint language text (Syntax at) hint = IsLaterHint language text hint
IsHint language text (Early number at) hint = IsLaterHint language text hint
IsHint language text fault hint = hint ≡ hints.Nothing
