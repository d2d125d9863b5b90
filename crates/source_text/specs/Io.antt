-- What a call of a device does: to the bytes that it took so far or has left, where it tells them, and whether it has failed.
use Rattle.std.specs.Prelude.{◌≡◌, ◌<◌, ◌≤◌, List, ℕ, Bool, true, false, length, take, Result, Ok, Err, Option}
use Rattle.std.specs.Io.KnownBytes.{Appends, Keeps, Consumes, IsAtEnd}
use Rattle.std.specs.declared.io.Error.{Error}
use Rattle.source_text.specs.declared.sink.DeviceFault.{DeviceFault}

-- `put`: the first n bytes of the piece were taken, at least one if it has any; or the device failed and took nothing
abbrev pub TakesBytes : List ℕ → Result ℕ DeviceFault → Option (List ℕ) → Option (List ℕ) → Bool → Type 0
TakesBytes piece (Ok n) before after failed = (n ≤ length piece) × (0 < length piece → 0 < n) × Appends before after (take n piece) × (failed ≡ false)
TakesBytes piece (Err e) before after failed = Keeps before after × (failed ≡ true)

-- `get`: the first n bytes of the room are the next ones, none only at the end; or the device failed and gave nothing
abbrev pub GivesBytes : List ℕ → Result ℕ DeviceFault → Option (List ℕ) → Option (List ℕ) → Bool → Type 0
GivesBytes room (Ok n) before after failed = (n ≤ length room) × Consumes before after (take n room) × (n ≡ 0 → IsAtEnd after) × (failed ≡ false)
GivesBytes room (Err e) before after failed = Keeps before after × (failed ≡ true)

-- a `write` of std that takes nothing it should: it answered an error, or took no byte of a piece that has any
abbrev pub IsWriteFault : List ℕ → Result ℕ Error → Type 0
IsWriteFault piece (Ok n) = (n ≡ 0) × (0 < length piece)
IsWriteFault piece (Err e) = Unit {0}

-- a device over a writer of std tells what `write` answered, among what it may: so many bytes; and it fails by a fault of `write` alone
abbrev pub TellsWrite : (Result ℕ Error → Type 0) → List ℕ → Result ℕ DeviceFault → Type 0
TellsWrite may_answer piece (Ok n) = may_answer (Ok n)
TellsWrite may_answer piece (Err e) = (answer : Result ℕ Error) × may_answer answer × IsWriteFault piece answer

-- and over a reader what `read` answered; it fails by an error of `read` alone
abbrev pub TellsRead : (Result ℕ Error → Type 0) → Result ℕ DeviceFault → Type 0
TellsRead may_answer (Ok n) = may_answer (Ok n)
TellsRead may_answer (Err e) = (error : Error) × may_answer (Err error)
