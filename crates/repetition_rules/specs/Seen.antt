-- Sets of the labels that stood before.
use Rattle.std.specs.Prelude.{◌≡◌, ℕ, Bool, ◌&&◌, ◌||◌, List}
use Rattle.std.specs.Str.{bytes_eq}
use Rattle.name_tables.specs.Sets.{contains}
use Rattle.repetition_rules.specs.declared.again.Seen.{Seen}
use Rattle.repetition_rules.specs.Entries.{Entry, reads_among, writes_among}

-- what it says is said by one whose label is in them
abbrev pub is_seen : Seen → Entry → Bool
is_seen seen e = (e.is_read && contains seen.read e.label) || (e.is_written && contains seen.written e.label)

-- they have one more label
abbrev pub IsWith : Entry → (old new : Seen) → Type 0
IsWith e old new = (w : List ℕ)
    → (contains new.read w ≡ ((e.is_read && bytes_eq w e.label) || contains old.read w)) × (contains new.written w ≡ ((e.is_written && bytes_eq w e.label) || contains old.written w))

-- they have the labels of these
abbrev pub Holds : Seen → List Entry → Type 0
Holds seen entries = (w : List ℕ) → (contains seen.read w ≡ reads_among entries w) × (contains seen.written w ≡ writes_among entries w)
