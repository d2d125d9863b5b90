use Rattle.std.proofs.Common.{drop}
use Rattle.std.specs.Prelude.{IsTrue}
use Rattle.unwrapping.specs.Readings.{ascend}
use Rattle.unwrapping.proofs.note.are_ascending.Given as goal

-- if the others ascend from here on, all do
abbrev pub invariant-loop-note : goal.invariant-loop-note
invariant-loop-note l = IsTrue (ascend l.low (drop l.note-index l.notes)) → IsTrue (ascend 0 l.notes)
