use Rattle.std.proofs.Common.{refl, ◌∙◌, ap}
use Rattle.layout_items.specs.Passes.{behind_choice}
use Rattle.layout_items.proofs.PassSteps.{passed-choice_end}
use Rattle.layout_items.proofs.needs.Measures.pass_choice_end.Goals as goal

pub returns : goal.returns
returns c is s h =
    let e = c.in_ok-pass_end.ensures in
    passed-choice_end is c.args.self.now c.pass_end.new.self _ h e.tails refl refl (c.behind_choice-self.ensures ∙ ap behind_choice e.others.0) (ap (λ v. v.items) e.others.1)
