use Rattle.pattern_analysis.proofs.MarkOrder.{order_in}
use Rattle.pattern_analysis.proofs.reached.opened.Goals as goal

pub returns-clause-order : goal.returns-clause-order
returns-clause-order c = λ kept. order_in c.args.reached.frame c.args.frame c.args.reached.count c.args.around.now.items c.push.new.self.items kept c.in_ok-push.ensures.items
