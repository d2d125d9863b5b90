-- What is read of a file.
use Rattle.std.specs.Prelude.{◌≡◌, ◌+◌, List, ℕ, Bool, true, false, take, Result, Ok, Err, Vec, Option, IfSome}
use Rattle.std.specs.declared.alloc.Global.{Global}
use Rattle.source_text.specs.declared.fault.Fault.{Fault}
use Rattle.source_text.specs.declared.fault.Fault.TheVariants.{ReadFailed, OutOfMemory}

-- all that was left was read, but no more than one byte past the limit; a device's failure is told as such, and want of memory is none
abbrev pub ReadsUpTo : ℕ → Option (List ℕ) → Result (Vec ℕ Global) Fault → Bool → Type 0
ReadsUpTo limit left (Ok v) failed = IfSome left (λ xs. v.items ≡ take (limit + 1) xs) × (failed ≡ false)
ReadsUpTo limit left (Err ReadFailed) failed = failed ≡ true
ReadsUpTo limit left (Err OutOfMemory) failed = failed ≡ false
ReadsUpTo limit left (Err other) failed = ⊥
