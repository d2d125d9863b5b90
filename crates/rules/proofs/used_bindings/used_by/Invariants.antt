use Rattle.std.proofs.Common.{map, take}
use Rattle.scopes.specs.Shown.{reference_shown}
use Rattle.rules.specs.Used.{Notes}
use Rattle.rules.specs.Rules.{is_used}
use Rattle.rules.proofs.used_bindings.used_by.Given as goal

abbrev pub invariant-loop-reference : goal.invariant-loop-reference
invariant-loop-reference l = Notes l.scopes.scopes (is_used l.writes (map reference_shown (take l.reference-index l.reference-items))) l.used
