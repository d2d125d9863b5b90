use Rattle.std.proofs.Common.{sym, ◌∙◌}
use Rattle.retaining.specs.Retains.{may_move_over}
use Rattle.retaining.specs.Comparing.{word_in, breaks_row}
use Rattle.retaining.proofs.RetainSteps.{leads_kept, leads_moved}
use Rattle.retaining.proofs.retaining.Comparison.keep.Goals as goal

pub returns-then-have_same_comments-clause-leads : goal.returns-then-have_same_comments-clause-leads
returns-then-have_same_comments-clause-leads c = λ _.
    leads_kept {text = c.args.source.now} {formatted = c.args.formatted.now} c.args.self.now (record { text = c.settle.new.self; formatted = c.settle-then-have_same_comments.new.self }) c.pass.new.self c.pass-2.new.self c.args.row c.args.other
    c.requires.row c.requires.other c.requires.same (c.in_ok-passed.ensures c.if-not-passed.false) (c.in_ok-passed_again.ensures c.if-not-passed_again.false) (c.have_same_comments.ensures c.if-have_same_comments.true)
    c.settle.ensures c.settle-then-have_same_comments.ensures

pub returns-clause-leads : goal.returns-clause-leads
returns-clause-leads c = λ _.
    let old = c.args.self.now in
    let row = c.args.row in
    let is = c.bytes.ensures.value in
    leads_moved {text = c.args.source.now} {formatted = c.args.formatted.now} old (record { text = c.pass.new.self; formatted = c.settle-2.new.self }) c.pass-2.new.self row c.args.other c.requires.row c.requires.other c.requires.same
    (c.in_ok-passed.ensures c.if-not-passed.false) (c.in_ok-passed_again.ensures c.if-not-passed_again.false)
    ((λ i. may_move_over old.text.is_operand (word_in (sym is i) row)) ∙ c.may_move-may_move.ensures.over c.if-not-may_move.false)
    ((λ i. breaks_row (sym is i) old.text row) ∙ c.may_move-may_move.ensures.breaks c.if-not-may_move.false) (c.is_settled.ensures c.if-not-is_settled.false) c.settle-2.ensures
