-- How what a text is put into stands: what it holds, what waits, and whether it has failed.
use Rattle.std.specs.Prelude.{◌≡◌, ℕ, Bool, true, false, List, [], ◌++◌, Option, Some}
use Rattle.std.specs.Io.KnownBytes.{Appends}
use Rattle.source_text.specs.Writing.{AppendsBeginning}

pub record Standing : Type 0 where
  pub taken : Option (List ℕ)
  pub failed : Bool
  pub waiting : List ℕ

abbrev pub of_writer : Option (List ℕ) → Bool → List ℕ → Standing
of_writer taken failed waiting = record { taken = taken; failed = failed; waiting = waiting }

-- a text in memory, in which nothing waits
abbrev pub of_text : List ℕ → Bool → Standing
of_text bytes refused = of_writer (Some bytes) refused []

abbrev pub StandsBy : Option (List ℕ) → Option (List ℕ) → Bool → List ℕ → List ℕ → Type 0
StandsBy before taken false waiting text = (front : List ℕ) × Appends before taken front × (text ≡ front ++ waiting)
StandsBy before taken true waiting text = AppendsBeginning before taken text

-- since `before`, this text was put in, and what of it isn't taken waits; or it failed behind a beginning of the text
abbrev pub Stands : Option (List ℕ) → Standing → List ℕ → Type 0
Stands before s text = StandsBy before s.taken s.failed s.waiting text

-- this text was put in
abbrev pub Puts : Standing → Standing → List ℕ → Type 0
Puts old new text = (before : Option (List ℕ)) (sofar : List ℕ) → Stands before old sofar → Stands before new (sofar ++ text)

-- some text was put in
pub record Adds (old new : Standing) : Type 0 where
  pub text : List ℕ
  pub puts : Puts old new text
