use Rattle.std.proofs.Common.{refl, ◌∙◌, ap}
use Rattle.layout_items.specs.Passes.{of_group, with_part}
use Rattle.layout_items.proofs.PassSteps.{passed-join, needs-flat, innermost-ends}
use Rattle.layout_items.proofs.needs.Measures.pass_join_start.Goals as goal

pub returns : goal.returns
returns c is s h =
    let e = c.in_ok-pass_start.ensures in
    let old = c.args.self.now in
    let behind = innermost-ends is old.innermost (h.tails 0) in
    let flat = needs-flat is old.columns old.innermost.behind c.need_to.result s h.columns behind c.need_to.ensures in
    passed-join is old c.pass_start.new.self _ c.of_group.result h e.tails
    (c.with_part-self.ensures ∙ ap (λ x. with_part x old.innermost.behind c.pass_start.new.self.innermost) e.others.0) refl e.others.1 (c.of_group.ensures ∙ ap of_group flat) e.others.0
