use Rattle.std.proofs.Common.{◌≡◌, ◌-◌, length}
use Rattle.std.specs.List.{list_any}
use Rattle.std.specs.Str.{chars}
use Rattle.source_text.specs.Source.{IsPlace}
use Rattle.tokens.specs.Reading.{behind}
use Rattle.text_rules.specs.Rows.{is_irregular}
use Rattle.text_rules.proofs.quiet.has_irregular.Given as goal

abbrev pub invariant-loop-step : goal.invariant-loop-step
invariant-loop-step l = record {
  place : IsPlace l.text l.at;
  found : list_any is_irregular (chars l.text) ≡ list_any is_irregular (behind l.text l.at);
}

abbrev pub decreases-loop-step : goal.decreases-loop-step
decreases-loop-step l = length l.initial.text - l.at
