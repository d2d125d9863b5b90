use Rattle.std.proofs.Common.{◌≡◌, ◌++◌, take}
use Rattle.std.specs.Prelude.{map}
use Rattle.early_errors.specs.ExportsRead.{all_exported}
use Rattle.early_errors.specs.Modules.{in_units}
use Rattle.early_errors.specs.Walk.{all_named}
use Rattle.early_errors.proofs.exported_names.push_as_exported.Given as goal

abbrev pub invariant-loop-named : goal.invariant-loop-named
invariant-loop-named l = all_exported l.names.items ≡ all_exported l.fn.names.items ++ map in_units (all_named (take l.named-index l.declared))
