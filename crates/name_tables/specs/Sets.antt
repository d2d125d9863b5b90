-- Sets of names.
use Rattle.std.specs.Prelude.{ℕ, Bool, List}
use Rattle.std.specs.List.{list_any}
use Rattle.std.specs.Str.{bytes_eq}
use Rattle.name_tables.specs.declared.set.NameSet.{NameSet}

-- whether a name is in a set
abbrev pub contains : NameSet → List ℕ → Bool
contains s w = list_any (λ k. bytes_eq w k.now) s.names.keys
