use Rattle.layout_items.proofs.PassSteps.{ended, outside}
use Rattle.layout_items.proofs.needs.Measures.pass.Goals as goal

pub returns-in-GroupEnd : goal.returns-in-GroupEnd
returns-in-GroupEnd c is s h = ended c.pass_end.result c.args.item is c.args.self.now c.pass_end.new.self c.in-GroupEnd.is h c.pass_end.ensures.tails c.pass_end.ensures.others

pub returns-in_default : goal.returns-in_default
returns-in_default c is s h =
    let n = c.in_default in
    c.pass_other.ensures is s (outside c.args.item n.not-GroupStart n.not-WideStart n.not-JoinStart n.not-ChoiceStart n.not-GroupEnd n.not-ChoiceEnd) h
