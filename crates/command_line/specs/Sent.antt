-- What of a text was written, and what waits to be written.
use Rattle.std.specs.Prelude.{◌≡◌, ℕ, Bool, true, false, List, ◌++◌, Option, Result, Ok, Err}
use Rattle.std.specs.Io.KnownBytes.{Appends}
use Rattle.source_text.specs.declared.sink.DeviceFault.{DeviceFault}
use Rattle.source_text.specs.Writing.{AppendsBeginning}

-- all of a text was written but what waits, its end
abbrev pub Sent : Option (List ℕ) → Option (List ℕ) → List ℕ → List ℕ → Type 0
Sent before after waiting text = (p : List ℕ) × Appends before after p × (p ++ waiting ≡ text)

-- the text was handed on: it was written but for what waits, or a beginning of it was, and the writer has failed
abbrev pub HandsOn : Option (List ℕ) → Option (List ℕ) → List ℕ → List ℕ → Result (Unit {0}) DeviceFault → Bool → Type 0
HandsOn before after waiting text (Ok u) failed = Sent before after waiting text × (failed ≡ false)
HandsOn before after waiting text (Err e) failed = AppendsBeginning before after text × (failed ≡ true)
