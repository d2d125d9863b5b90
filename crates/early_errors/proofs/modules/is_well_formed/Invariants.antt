use Rattle.std.proofs.Common.{◌≡◌, drop}
use Rattle.early_errors.specs.ExportsRead.{goes_on_well}
use Rattle.early_errors.specs.Modules.{is_well_formed}
use Rattle.early_errors.proofs.modules.is_well_formed.Given as goal

abbrev pub invariant-loop-unit : goal.invariant-loop-unit
invariant-loop-unit l = goes_on_well l.awaits_low (drop l.unit-index l.units) ≡ is_well_formed l.units
