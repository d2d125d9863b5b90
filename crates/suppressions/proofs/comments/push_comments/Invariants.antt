use Rattle.std.proofs.Common.{◌≡◌, ◌+◌, ◌-◌, ◌≤◌, ◌++◌, length}
use Rattle.std.specs.Str.{chars}
use Rattle.source_text.specs.Source.{IsPlace}
use Rattle.text_rules.specs.declared.spot.Spot.TheVariants.{Outside}
use Rattle.tokens.specs.Reading.{behind}
use Rattle.suppressions.specs.Comments.{comments_from}
use Rattle.suppressions.proofs.comments.push_comments.Given as goal

abbrev pub invariant-loop-step : goal.invariant-loop-step
invariant-loop-step l = record {
  place : IsPlace l.text l.at;
  within : l.at ≤ length l.text;
  found : l.out.items ++ comments_from l.spot l.begun (l.from + l.at) (behind l.text l.at) ≡ l.fn.out.items ++ comments_from Outside l.from l.from (chars l.text);
}

abbrev pub decreases-loop-step : goal.decreases-loop-step
decreases-loop-step l = length l.initial.text - l.at
