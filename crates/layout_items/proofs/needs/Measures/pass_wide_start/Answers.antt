use Rattle.std.proofs.Common.{refl, ◌∙◌, ap}
use Rattle.layout_items.specs.Passes.{of_group}
use Rattle.layout_items.proofs.PassSteps.{passed-wide, before_wide, needs-wide, innermost-ends}
use Rattle.layout_items.proofs.needs.Measures.pass_wide_start.Goals as goal

pub returns : goal.returns
returns c is s h =
    let e = c.in_ok-pass_start.ensures in
    let old = c.args.self.now in
    let behind = innermost-ends is old.innermost (h.tails 0) in
    let flat = needs-wide is old.columns old.innermost.behind c.wide_need_to.result h.columns behind c.wide_need_to.ensures in
    passed-wide is old c.pass_start.new.self _ c.of_group.result h e.tails refl refl e.others.1 (c.of_group.ensures ∙ ap of_group flat)
    (before_wide is c.pass_start.new.self.columns old.innermost.behind c.around_wide-self.result s (e.others.0 ∙ h.columns) behind c.around_wide-self.ensures)
