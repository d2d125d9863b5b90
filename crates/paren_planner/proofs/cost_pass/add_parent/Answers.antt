use Rattle.std.proofs.Common.{sym, subst}
use Rattle.paren_planner.specs.Pending.{outer_of}
use Rattle.cost_table.specs.Costs.{IsHeld}
use Rattle.paren_planner.proofs.BackwardSteps.{innermost_held, parent_taken}
use Rattle.paren_planner.proofs.cost_pass.add_parent.Goals as goal

pub add_leaf-requires : goal.add_leaf-requires
add_leaf-requires c = subst IsHeld (sym c.leave.ensures.here) (innermost_held (outer_of c.args.pending.now) c.requires.outer)

pub returns-then-is_nothing : goal.returns-then-is_nothing
returns-then-is_nothing c =
    parent_taken c.add_leaf.result c.args.visit.now _ c.args.pending.now c.leave.new.self _ c.args.table.now.rows.items (sym (c.is_nothing.ensures c.if-is_nothing.true)) c.leave.ensures.here c.leave.ensures.outer c.add_leaf.ensures

pub add_node-requires : goal.add_node-requires
add_node-requires c = subst IsHeld (sym c.leave-2.ensures.here) (innermost_held (outer_of c.args.pending.now) c.requires.outer)

pub returns : goal.returns
returns c =
    parent_taken c.add_node.result c.args.visit.now c.sums-inner.result c.args.pending.now c.leave-2.new.self _ c.args.table.now.rows.items c.sums-inner.ensures c.leave-2.ensures.here c.leave-2.ensures.outer c.add_node.ensures
