-- Devices in memory, as their clauses see them.
use Rattle.std.specs.Prelude.{◌≡◌, ◌↔◌, ◌+◌, ◌-◌, ◌^◌, ◌==◌, ◌&&◌, ◌||◌, not, List, ℕ, Bool, false, length, min, max, Option, Some, None, Result, IfOk, IsErr, IsTrue}
use Rattle.source_text.specs.declared.memory_device.FailurePlan.{FailurePlan}
use Rattle.source_text.specs.declared.sink.DeviceFault.{DeviceFault}

-- A writer: the bytes that it took, the most that it can take, its plan, the number of calls so far, and whether one has failed.
pub record Stored : Type 0 where
  pub bytes : List ℕ
  pub room : ℕ
  pub plan : FailurePlan
  pub made : ℕ
  pub failed : Bool

-- A reader: the bytes that it has left, its plan, the number of calls so far, and whether one has failed.
pub record Unread : Type 0 where
  pub left : List ℕ
  pub plan : FailurePlan
  pub made : ℕ
  pub failed : Bool

-- the number of the next call, where calls are counted up to 2 ^ 64 - 1
abbrev pub next_number : ℕ → ℕ
next_number made = min (made + 1) (2 ^ 64 - 1)

-- whether it is for the call with this number to fail
abbrev pub is_chosen : Option ℕ → ℕ → Bool
is_chosen (Some k) number = k == number
is_chosen None number = false

-- how many bytes of a piece a writer takes in a call
abbrev pub fitting : Stored → List ℕ → ℕ
fitting s piece = min (min (length piece) s.plan.per_call) (s.room - length s.bytes)

-- a call fails where the plan says so, or where there are bytes to take and none fits
abbrev pub put_fails : Stored → List ℕ → Bool
put_fails s piece = is_chosen s.plan.fails_at (next_number s.made) || (fitting s piece == 0 && not (length piece == 0))

abbrev pub Puts : Stored → List ℕ → Result ℕ DeviceFault → Stored → Type 0
Puts old piece result new = (IsErr result ↔ IsTrue (put_fails old piece)) × IfOk result (λ n. n ≡ fitting old piece)
    × (new.room ≡ old.room) × (new.plan ≡ old.plan) × (new.made ≡ next_number old.made)

-- how many bytes a reader gives in a call
abbrev pub giving : Unread → ℕ → ℕ
giving f room = min (min room (max f.plan.per_call 1)) (length f.left)

abbrev pub Gets : Unread → ℕ → Result ℕ DeviceFault → Unread → Type 0
Gets old room result new = (IsErr result ↔ IsTrue (is_chosen old.plan.fails_at (next_number old.made))) × IfOk result (λ n. n ≡ giving old room)
    × (new.plan ≡ old.plan) × (new.made ≡ next_number old.made)
