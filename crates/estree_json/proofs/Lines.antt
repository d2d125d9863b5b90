-- What computes the members of a node of a kind.
use Rattle.std.specs.Prelude.{⊤}
use Rattle.estree_json.specs.Json.{with_value, with_part, with_list, with_ends, with_turns, with_option}

unfoldable pub lines_computed : ⊤
unfolding with_value with_part with_list with_ends with_turns with_option
lines_computed = tt
