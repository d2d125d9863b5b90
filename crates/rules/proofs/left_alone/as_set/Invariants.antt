use Rattle.std.proofs.Common.{◌≡◌, ℕ, drop}
use Rattle.std.specs.Prelude.{◌||◌, nat_eq}
use Rattle.std.specs.List.{list_any}
use Rattle.rules.proofs.left_alone.as_set.Given as goal

abbrev pub invariant-loop-start : goal.invariant-loop-start
invariant-loop-start l = (n : ℕ) → (list_any (nat_eq n) l.set.keys || list_any (nat_eq n) (drop l.start-index l.starts)) ≡ list_any (nat_eq n) l.starts
