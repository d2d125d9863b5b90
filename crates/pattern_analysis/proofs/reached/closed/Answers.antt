use Rattle.pattern_analysis.proofs.MarkOrder.{order_behind}
use Rattle.pattern_analysis.proofs.reached.closed.Goals as goal

pub returns-clause-order : goal.returns-clause-order
returns-clause-order c =
    order_behind c.args.reached.frame c.in-Some.outer c.args.reached.count c.args.around.now.items c.pop.new.self.items c.args.kept.now.items c.forget.new.kept.items c.in-Some.ensures.items
    c.forget.ensures.front
