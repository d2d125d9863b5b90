use Rattle.std.proofs.Common.{◌≡◌, ◌++◌, drop}
use Rattle.paren_planner.specs.Extra.{extra_spans}
use Rattle.paren_planner.proofs.extra.extra_pairs.Given as goal

-- the spans so far, with those of the pairs from here on
abbrev pub invariant-loop-index : goal.invariant-loop-index
invariant-loop-index l = l.spans.items ++ extra_spans l.wraps.flags.items (drop l.index l.groupings) ≡ extra_spans l.wraps.flags.items l.groupings
