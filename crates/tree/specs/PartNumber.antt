-- What the bytes of a part's number say, and how the logic stores it.
use Rattle.std.specs.Prelude.{◌≡◌, ℕ, zero, suc, Option, Some, None, refl}
use Rattle.std.specs.Coded.{Coded, coded_option}
use Rattle.tree.specs.declared.flat_node.NodeNumber.{NodeNumber}
use Rattle.tree.specs.contracts.flat_node.NodeNumber as number

abbrev pub part_of : ℕ → Option NodeNumber
part_of zero = None
part_of (suc i) = Some (record { number = i })

abbrev pub above_of : Option NodeNumber → ℕ
above_of None = 0
above_of (Some k) = suc k.number

pub above_of-part_of : (n : ℕ) → above_of (part_of n) ≡ n
above_of-part_of zero = refl
above_of-part_of (suc i) = refl

abbrev pub part_code : Coded (Option NodeNumber)
part_code = coded_option number.the_row.coded
