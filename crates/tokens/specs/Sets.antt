-- Sets of characters of ASCII, as numbers with a bit for each.
use Rattle.std.specs.Prelude.{ℕ, ◌/◌, ◌%◌, ◌^◌, Bool, List, nat_eq, bit_and, slice_index_or}

abbrev pub has_bit : List ℕ → ℕ → Bool
has_bit set c = nat_eq (bit_and (slice_index_or {A = ℕ} set (c / 64) 0 / 2 ^ (c % 64)) 1) 1
