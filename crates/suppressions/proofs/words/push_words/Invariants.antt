use Rattle.std.proofs.Common.{◌≡◌, ◌-◌, ◌≤◌, ◌++◌, length}
use Rattle.source_text.specs.Source.{IsPlace}
use Rattle.tokens.specs.Reading.{behind}
use Rattle.suppressions.specs.Words.{words, words_from}
use Rattle.suppressions.proofs.words.push_words.Given as goal

abbrev pub invariant-loop-step : goal.invariant-loop-step
invariant-loop-step l = record {
  begin : IsPlace l.text l.from;
  place : IsPlace l.text l.at;
  within : l.at ≤ length l.text;
  found : l.out.items ++ words_from l.text l.from l.at (behind l.text l.at) ≡ l.fn.out.items ++ words l.text;
}

abbrev pub decreases-loop-step : goal.decreases-loop-step
decreases-loop-step l = length l.initial.text - l.at
