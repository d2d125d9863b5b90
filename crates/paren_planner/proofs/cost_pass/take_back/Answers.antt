use Rattle.paren_planner.specs.declared.steps.Step.TheVariants.{Leaf, Enter}
use Rattle.paren_planner.proofs.BackwardSteps.{free_taken, passed_taken, step_taken, leave_taken}
use Rattle.paren_planner.proofs.cost_pass.take_back.Goals as goal

pub returns-in-Free : goal.returns-in-Free
returns-in-Free c =
    free_taken c.push_free.result c.args.step.now c.in-Free.kind c.in-Free.rank c.args.pending.now c.args.table.now.rows.items c.push_free.new.self.rows.items c.in-Free.is c.push_free.ensures.rows

pub returns-in-Passed : goal.returns-in-Passed
returns-in-Passed c = passed_taken c.args.step.now c.in-Passed.field-0 _ c.in-Passed.is

pub returns-in-Leaf : goal.returns-in-Leaf
returns-in-Leaf c = step_taken c.add_leaf.result c.args.step.now (Leaf c.in-Leaf.visit) _ _ c.in-Leaf.is c.add_leaf.ensures

pub returns-in-Enter : goal.returns-in-Enter
returns-in-Enter c = step_taken c.add_parent.result c.args.step.now (Enter c.in-Enter.visit) _ _ c.in-Enter.is c.add_parent.ensures

pub returns-in-Leave : goal.returns-in-Leave
returns-in-Leave c = leave_taken c.enter.result c.args.step.now c.args.pending.now c.enter.new.self c.args.table.now.rows.items c.in-Leave.is c.enter.ensures.here c.enter.ensures.outer
