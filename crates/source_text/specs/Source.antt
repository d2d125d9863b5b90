-- Checked source text.
use Rattle.std.specs.Prelude.{ℕ, ◌≤◌, ◌<◌, List, length, take}
use Rattle.std.specs.Str.{IsUtf8, IsCharBoundary}
use Rattle.source_text.specs.declared.fault.Fault.{Fault}
use Rattle.source_text.specs.declared.fault.Fault.TheVariants.{NotUtf8, TooLong}

-- a place of a text, as an offset in bytes: between two of its characters, before the first or behind the last
abbrev pub IsPlace : List ℕ → ℕ → Type 0
IsPlace text offset = IsCharBoundary text offset

-- the longest text that is taken, in bytes
abbrev pub max_bytes : ℕ
max_bytes = 16777216

-- the first byte that begins no UTF-8 sequence: what stands before it is UTF-8, and no longer beginning of the bytes is
pub record IsFirstFault (bytes : List ℕ) (at : ℕ) : Type 0 where
  pub within : at < length bytes
  pub before : IsUtf8 (take at bytes)
  pub longest : (n : ℕ) → at < n → ¬ (IsUtf8 (take n bytes))

-- why bytes are no source text: the length is looked at first
abbrev pub IsRefusal : List ℕ → Fault → Type 0
IsRefusal bytes TooLong = max_bytes < length bytes
IsRefusal bytes (NotUtf8 at) = (length bytes ≤ max_bytes) × IsFirstFault bytes at
IsRefusal bytes _ = ⊥
