-- The names of references that mean a binding.
use Rattle.std.specs.Prelude.{ℕ, Bool, ◌&&◌, List, is_some}
use Rattle.std.specs.List.{list_any}
use Rattle.std.specs.Str.{bytes_eq}
use Rattle.scopes.specs.declared.binding.Reference.{Reference}

abbrev pub is_meant : List Reference → List ℕ → Bool
is_meant references name = list_any (λ r. is_some r.meaning && bytes_eq name r.name.now) references
