-- The first part, where its names are bound.
use Rattle.std.proofs.Common.{◌≡◌}
use Rattle.tree.specs.Tree.{Parts, part_at}
use Rattle.name_tables.proofs.Patterns.{first_bound_names-at}
use Rattle.early_errors.specs.Names.{name_at, first_names}
use Rattle.early_errors.specs.Walk.{names_at}

pub first_names-at : (ps : Parts) → first_names ps ≡ names_at (part_at ps 0)
first_names-at ps = first_bound_names-at name_at ps
