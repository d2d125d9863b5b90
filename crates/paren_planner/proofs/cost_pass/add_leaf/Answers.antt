use Rattle.cost_table.specs.Packed.{free_shape, shaped}
use Rattle.cost_table.specs.Rows.{row_with}
use Rattle.paren_planner.proofs.BackwardSteps.{free_joined}
use Rattle.paren_planner.proofs.cost_pass.add_leaf.Goals as goal

pub returns-in-Some : goal.returns-in-Some
returns-in-Some c =
    free_joined c.note_free.result c.args.visit.now c.args.pending.now c.args.table.now.rows.items c.note_free.new.table.rows.items (row_with c.args.visit.now.kind (shaped (free_shape c.in-Some.rank) 0)) c.requires c.in-Some.ensures.used c.in-Some.ensures.row c.note_free.ensures
