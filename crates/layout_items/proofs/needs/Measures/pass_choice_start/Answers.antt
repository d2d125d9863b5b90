use Rattle.std.proofs.Common.{refl, ◌∙◌}
use Rattle.layout_items.proofs.PassSteps.{passed-choice, before_start, needs-flat, needs-joined, innermost-ends}
use Rattle.layout_items.proofs.needs.Measures.pass_choice_start.Goals as goal

pub returns : goal.returns
returns c is s h =
    let e = c.in_ok-pass_start.ensures in
    let old = c.args.self.now in
    let flat = needs-flat is old.columns old.innermost.behind c.need_to.result s h.columns (innermost-ends is old.innermost (h.tails 0)) c.need_to.ensures in
    let joined = needs-joined is old.columns old.innermost c.joined_need.result h.columns (h.tails 0) c.joined_need.ensures in
    passed-choice is old c.pass_start.new.self _ _ h e.tails refl refl e.others.1 (rw (flat, joined) refl)
    (before_start is c.pass_start.new.self.columns c.before_choice-self.result old.innermost s (e.others.0 ∙ h.columns) (h.tails 0) c.before_choice-self.ensures)
