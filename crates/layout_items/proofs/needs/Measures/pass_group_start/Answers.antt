use Rattle.std.proofs.Common.{refl, ◌∙◌, ap}
use Rattle.layout_items.specs.Passes.{of_group}
use Rattle.layout_items.proofs.PassSteps.{passed-group, before_group, needs-flat, innermost-ends}
use Rattle.layout_items.proofs.needs.Measures.pass_group_start.Goals as goal

pub returns : goal.returns
returns c is s h =
    let e = c.in_ok-pass_start.ensures in
    let old = c.args.self.now in
    let behind = innermost-ends is old.innermost (h.tails 0) in
    let flat = needs-flat is old.columns old.innermost.behind c.need_to.result s h.columns behind c.need_to.ensures in
    passed-group is old c.pass_start.new.self _ c.of_group.result h e.tails refl refl e.others.1 (c.of_group.ensures ∙ ap of_group flat)
    (before_group is c.pass_start.new.self.columns old.innermost.behind c.around_group-self.result s (e.others.0 ∙ h.columns) behind c.around_group-self.ensures)
