use Rattle.std.proofs.Common.{◌≡◌, drop}
use Rattle.std.specs.Prelude.{◌||◌}
use Rattle.std.specs.List.{list_any}
use Rattle.text_rules.specs.Quiet.{is_odd}
use Rattle.text_rules.proofs.quiet.has_odd.Given as goal

abbrev pub invariant-loop-byte : goal.invariant-loop-byte
invariant-loop-byte l = (l.found || list_any is_odd (drop l.byte-index l.bytes)) ≡ list_any is_odd l.bytes
