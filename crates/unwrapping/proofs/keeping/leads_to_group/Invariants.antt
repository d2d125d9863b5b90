use Rattle.std.proofs.Common.{◌≡◌, true, drop}
use Rattle.unwrapping.specs.Comparing.{leads_rows}
use Rattle.unwrapping.proofs.keeping.leads_to_group.Given as goal

abbrev pub invariant-loop-row : goal.invariant-loop-row
invariant-loop-row l = leads_rows l.text (drop l.row-index l.rows) ≡ true → leads_rows l.text l.rows ≡ true
