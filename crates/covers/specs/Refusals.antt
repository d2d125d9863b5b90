-- How what was read is refused.
use Rattle.std.specs.Prelude.{◌≡◌, ℕ, Bool, true, false, Result, Ok, Err}
use Rattle.source_text.specs.declared.fault.Fault.{Fault}
use Rattle.source_text.specs.declared.fault.Fault.TheVariants.{Syntax, OutOfMemory}

-- memory is refused
abbrev pub IsMemory : Fault → Type 0
IsMemory OutOfMemory = Unit {0}
IsMemory _ = ⊥

-- so, or a syntax error names the place that was handed in
abbrev pub IsRefusedAt : ℕ → Fault → Type 0
IsRefusedAt at (Syntax place) = place ≡ at
IsRefusedAt at OutOfMemory = Unit {0}
IsRefusedAt at _ = ⊥

-- it was taken, and fits; or it doesn't fit, and a syntax error names the place that was handed in; or it fits, and memory is refused
abbrev pub IsTaken : {X : Type 0} → Bool → ℕ → Result X Fault → Type 0
IsTaken fits at (Ok taken) = fits ≡ true
IsTaken fits at (Err (Syntax place)) = (place ≡ at) × (fits ≡ false)
IsTaken fits at (Err OutOfMemory) = fits ≡ true
IsTaken fits at (Err _) = ⊥
