-- What is written of a text.
use Rattle.std.specs.Prelude.{◌≡◌, ◌≤◌, List, ℕ, Bool, true, false, length, take, Result, Ok, Err, Option}
use Rattle.std.specs.Io.KnownBytes.{Appends, Keeps}
use Rattle.source_text.specs.declared.sink.DeviceFault.{DeviceFault}
use Rattle.source_text.specs.declared.fault.Fault.{Fault}
use Rattle.source_text.specs.declared.fault.Fault.TheVariants.{WriteFailed, OutOfMemory}

-- a beginning of the text was written
abbrev pub AppendsBeginning : Option (List ℕ) → Option (List ℕ) → List ℕ → Type 0
AppendsBeginning before after text = (n : ℕ) × (n ≤ length text) × Appends before after (take n text)

-- the whole text was written, or a beginning of it and the device failed
abbrev pub WritesText : List ℕ → Result (Unit {0}) DeviceFault → Option (List ℕ) → Option (List ℕ) → Bool → Type 0
WritesText text (Ok u) before after failed = Appends before after text × (failed ≡ false)
WritesText text (Err e) before after failed = AppendsBeginning before after text × (failed ≡ true)

-- a text that is made first was written, or a beginning of it; where memory was refused, nothing was
abbrev pub WritesMade : List ℕ → Result (Unit {0}) Fault → Option (List ℕ) → Option (List ℕ) → Bool → Type 0
WritesMade text (Ok u) before after failed = Appends before after text × (failed ≡ false)
WritesMade text (Err WriteFailed) before after failed = AppendsBeginning before after text × (failed ≡ true)
WritesMade text (Err OutOfMemory) before after failed = Keeps before after × (failed ≡ false)
WritesMade text (Err other) before after failed = ⊥
