use Rattle.std.proofs.Common.{◌≡◌, ◌-◌, length}
use Rattle.std.specs.List.{list_any}
use Rattle.std.specs.Str.{chars}
use Rattle.source_text.specs.Source.{IsPlace}
use Rattle.tokens.specs.Reading.{behind}
use Rattle.source_text.specs.Lines.{is_line_terminator}
use Rattle.text_rules.proofs.quiet.has_line_terminator.Given as goal

abbrev pub invariant-loop-step : goal.invariant-loop-step
invariant-loop-step l = record {
  place : IsPlace l.text l.at;
  found : list_any is_line_terminator (chars l.text) ≡ list_any is_line_terminator (behind l.text l.at);
}

abbrev pub decreases-loop-step : goal.decreases-loop-step
decreases-loop-step l = length l.initial.text - l.at
