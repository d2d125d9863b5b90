use Rattle.layout_items.proofs.GroupTails.{tails_end}
use Rattle.layout_items.proofs.needs.Measures.pass_end.Goals as goal

pub returns-clause-tails : goal.returns-clause-tails
returns-clause-tails c = (c.new-self.ensures, tails_end c.args.self.now c.push.new.self.items c.in_ok-push.ensures.items)
