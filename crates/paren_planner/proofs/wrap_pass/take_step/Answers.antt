use Rattle.std.proofs.Common.{◌≡◌, ◌+◌}
use Rattle.paren_planner.proofs.BackwardSteps.{none_popped}
use Rattle.paren_planner.proofs.ForwardSteps.{free_marked, passed_marked, living_leaf, living_parent, leave_marked}
use Rattle.paren_planner.proofs.wrap_pass.take_step.Goals as goal

pub returns-in-Free : goal.returns-in-Free
returns-in-Free c =
    free_marked c.push.result c.args.table.now.rows.items c.args.step.now _ _ c.args.around.now c.args.outer.now.items c.args.wrapped.now c.push.new.self c.in-Free.is c.push.ensures.flags c.push.ensures.rows

pub returns-in-Passed : goal.returns-in-Passed
returns-in-Passed c =
    passed_marked c.pass.result c.args.table.now.rows.items c.args.step.now _ c.args.around.now c.args.outer.now.items c.args.wrapped.now c.pass.new.self c.in-Passed.is c.pass.ensures.flags c.pass.ensures.row

pub returns-in-Leaf : goal.returns-in-Leaf
returns-in-Leaf c =
    living_leaf c.wrap_leaf.result c.args.table.now.rows.items c.args.step.now c.in-Leaf.visit c.args.around.now c.args.outer.now.items c.args.wrapped.now c.wrap_leaf.new.wrapped c.if-not-around.false c.in-Leaf.is c.wrap_leaf.ensures.flags c.wrap_leaf.ensures.rows

pub returns-in_ok-push-in-Enter : goal.returns-in_ok-push-in-Enter
returns-in_ok-push-in-Enter c =
    living_parent c.wrap_parent.result c.args.table.now.rows.items c.args.step.now c.in-Enter.visit c.args.around.now c.wrap_parent.new.around c.args.outer.now.items c.push-in-Enter.new.self.items c.args.wrapped.now c.wrap_parent.new.wrapped
    c.in-Enter.is c.in_ok-push-in-Enter.ensures.items c.wrap_parent.ensures.around c.wrap_parent.ensures.flags c.wrap_parent.ensures.rows

pub returns-in-Leave : goal.returns-in-Leave
returns-in-Leave c =
    leave_marked c.args.table.now.rows.items c.args.step.now c.args.around.now c.unwrap_or.result c.args.outer.now.items c.pop.new.self.items c.pop.result c.args.wrapped.now
    c.in-Leave.is c.pop.ensures.items (none_popped c.args.outer.now.items c.pop.new.self.items c.pop.result c.args.outer.now.len (c.pop.new.self.len ≡ 0) (λ u. c.pop.new.self.len + 1 ≡ c.args.outer.now.len) c.pop.ensures.items c.pop.ensures.rest c.pop.ensures.cases) c.unwrap_or.ensures
