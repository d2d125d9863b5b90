use Rattle.std.proofs.Common.{◌≡◌, ℕ, List, drop}
use Rattle.std.specs.Prelude.{◌||◌}
use Rattle.name_tables.specs.Sets.{contains}
use Rattle.private_members.specs.Found.{is_named, is_read}
use Rattle.private_members.proofs.members.names_of.Given as goal

abbrev pub invariant-loop-used : goal.invariant-loop-used
invariant-loop-used l =
    (w : List ℕ) → ((contains l.names.named w || is_named (drop l.used-index l.uses) w) ≡ is_named l.uses w) × ((contains l.names.read w || is_read (drop l.used-index l.uses) w) ≡ is_read l.uses w)
