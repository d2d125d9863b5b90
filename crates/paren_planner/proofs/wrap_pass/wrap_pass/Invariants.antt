use Rattle.std.proofs.Common.{◌≡◌, drop}
use Rattle.paren_planner.specs.Marked.{shown_marks, marked_through, at_the_start}
use Rattle.paren_planner.proofs.wrap_pass.wrap_pass.Given as goal

abbrev pub invariant-loop-index : goal.invariant-loop-index
invariant-loop-index l = marked_through (drop l.index l.steps) (shown_marks l.table.rows.items l.around l.outer.items l.wrapped) ≡ marked_through l.steps (at_the_start l.table.rows.items)
