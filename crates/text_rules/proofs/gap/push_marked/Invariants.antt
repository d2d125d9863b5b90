use Rattle.std.proofs.Common.{◌≡◌, ◌+◌, ◌-◌, ◌≤◌, ◌++◌, length}
use Rattle.std.specs.Str.{chars}
use Rattle.source_text.specs.Source.{IsPlace}
use Rattle.tokens.specs.Reading.{behind}
use Rattle.rule_words.specs.Appends.{Grows}
use Rattle.text_rules.specs.Readings.{start}
use Rattle.text_rules.specs.Rows.{marked}
use Rattle.text_rules.proofs.gap.push_marked.Given as goal

abbrev pub invariant-loop-step : goal.invariant-loop-step
invariant-loop-step l = record {
  place : IsPlace l.text l.at;
  within : l.at ≤ length l.text;
  found : l.out.items ++ marked l.look.rule l.reading (l.from + l.at) (behind l.text l.at) ≡ l.fn.out.items ++ marked l.look.rule start l.from (chars l.text);
  kept : Grows l.fn.out.items l.out.items;
}

abbrev pub decreases-loop-step : goal.decreases-loop-step
decreases-loop-step l = length l.initial.text - l.at
