use Rattle.std.proofs.Common.{◌≡◌, true, drop}
use Rattle.unwrapping.specs.Comparing.{from_rows}
use Rattle.unwrapping.proofs.keeping.comes_from.Given as goal

abbrev pub invariant-loop-row : goal.invariant-loop-row
invariant-loop-row l = from_rows l.text (drop l.row-index l.rows) ≡ true → from_rows l.text l.rows ≡ true
