use Rattle.std.proofs.Common.{◌-◌, length}
use Rattle.source_text.specs.Source.{IsPlace}
use Rattle.item_builder.proofs.gap_part.begins_with_ended_comment.Given as goal

abbrev pub invariant-loop-part : goal.invariant-loop-part
invariant-loop-part l = IsPlace l.text l.place

abbrev pub decreases-loop-part : goal.decreases-loop-part
decreases-loop-part l = length l.text - l.place
