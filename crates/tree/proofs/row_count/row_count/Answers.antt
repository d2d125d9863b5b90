use Rattle.std.proofs.Common.{◌+◌, ◌∙◌, ap, sym}
use Rattle.tree.proofs.FirstAndLast.{none_by_first, none_by_last, counted}
use Rattle.tree.proofs.row_count.row_count.Goals as goal

pub returns-in_default : goal.returns-in_default
returns-in_default c = λ a h. none_by_first a c.args.place (λ r x. sym c.in_default.is ∙ c.first_row.ensures a r x) h

pub returns-in_default-last_row : goal.returns-in_default-last_row
returns-in_default-last_row c = λ a h. none_by_last a c.args.place (λ r x. sym c.in_default-last_row.is ∙ c.last_row.ensures a r x) h

pub returns : goal.returns
returns c = λ a h.
    ap (λ k. k + 1) c.saturating_sub.ensures
    ∙ counted a c.args.place c.in-Some.first c.in-Some-last_row.last (λ r x. sym c.in-Some.is ∙ c.first_row.ensures a r x) (λ r x. sym c.in-Some-last_row.is ∙ c.last_row.ensures a r x) h
