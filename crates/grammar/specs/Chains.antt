-- Chains.
use Rattle.std.specs.Prelude.{Bool, false, Option, Some, None}
use Rattle.tree.specs.Tree.{Tree}
use Rattle.language.specs.Expressions.{has_optional}

abbrev pub part_has_optional : Option Tree → Bool
part_has_optional None = false
part_has_optional (Some n) = has_optional n
