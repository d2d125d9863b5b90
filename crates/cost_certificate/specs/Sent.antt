-- What of a text was written, and what is kept to be written.
use Rattle.std.specs.Prelude.{◌≡◌, ℕ, Bool, true, false, List, ◌++◌, Option, Result, Ok, Err}
use Rattle.std.specs.Io.KnownBytes.{Appends}
use Rattle.source_text.specs.declared.sink.DeviceFault.{DeviceFault}
use Rattle.source_text.specs.declared.fault.Fault.{Fault}
use Rattle.source_text.specs.declared.fault.Fault.TheVariants.{WriteFailed}
use Rattle.source_text.specs.Writing.{AppendsBeginning}

-- all of a text but this piece behind it was written
abbrev pub Sent : Option (List ℕ) → Option (List ℕ) → List ℕ → List ℕ → Type 0
Sent before after piece text = (p : List ℕ) × Appends before after p × (p ++ piece ≡ text)

-- of a piece some was written, and this is left; or a beginning of it was, and the device failed
abbrev pub MakesRoom : Option (List ℕ) → Option (List ℕ) → List ℕ → List ℕ → Result (Unit {0}) DeviceFault → Bool → Type 0
MakesRoom before after old new (Ok u) failed = Sent before after new old × (failed ≡ false)
MakesRoom before after old new (Err e) failed = AppendsBeginning before after old × (failed ≡ true)

-- the whole text was written, or a beginning of it and the writer failed
abbrev pub WritesOrFails : List ℕ → Result (Unit {0}) Fault → Option (List ℕ) → Option (List ℕ) → Bool → Type 0
WritesOrFails text (Ok u) before after failed = Appends before after text × (failed ≡ false)
WritesOrFails text (Err WriteFailed) before after failed = AppendsBeginning before after text × (failed ≡ true)
WritesOrFails text (Err other) before after failed = ⊥
