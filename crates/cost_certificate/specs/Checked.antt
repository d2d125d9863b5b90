-- What the check of a table answers.
use Rattle.std.specs.Prelude.{◌≡◌, ◌↔◌, ℕ, true, Option, Some, None, Result, Ok, Err}
use Rattle.tree.specs.Tree.{Tree}
use Rattle.language.specs.Claims.{Table, Sound}
use Rattle.cost_certificate.specs.declared.check.BadTable.{BadTable}
use Rattle.cost_certificate.specs.Types.{all_typed}
use Rattle.cost_certificate.specs.Faults.{TableFault}

abbrev pub shown : BadTable → TableFault
shown b = (b.row, b.reason)

abbrev pub shown_any : Option BadTable → Option TableFault
shown_any None = None
shown_any (Some b) = Some (shown b)

-- the total, or the fault
abbrev pub Answers : Option TableFault → ℕ → Result ℕ BadTable → Type 0
Answers None total (Ok n) = n ≡ total
Answers None total (Err b) = ⊥
Answers (Some x) total (Ok n) = ⊥
Answers (Some x) total (Err b) = shown b ≡ x

-- of a table whose rows have the kinds of expressions: the total is answered just where the table is sound
abbrev pub PassesIfSound : Table → Tree → Result ℕ BadTable → Type 0
PassesIfSound t n result = all_typed t.rows ≡ true → (result ≡ Ok t.total) ↔ Sound t n
