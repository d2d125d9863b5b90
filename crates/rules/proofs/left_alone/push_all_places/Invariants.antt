use Rattle.std.proofs.Common.{◌≡◌, ◌++◌, drop, map}
use Rattle.rules.proofs.left_alone.push_all_places.Given as goal

abbrev pub invariant-loop-name : goal.invariant-loop-name
invariant-loop-name l = l.starts.items ++ map (λ name. name.start) (drop l.name-index l.names) ≡ l.fn.starts.items ++ map (λ name. name.start) l.names
