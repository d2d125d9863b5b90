use Rattle.paren_planner.proofs.BackwardSteps.{node_joined}
use Rattle.paren_planner.proofs.cost_pass.add_node.Goals as goal

pub returns : goal.returns
returns c =
    node_joined c.args.visit.now c.args.inner c.weigh-weighed.result c.args.pending.now c.add.new.self c.args.table.now.rows.items c.note_row.new.table.rows.items c.weigh-weighed.ensures c.add.ensures.here c.add.ensures.outer c.in_ok-note_row.ensures
