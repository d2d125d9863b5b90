use Rattle.std.proofs.Common.{rules, is_lt}
use Rattle.std.proofs.lemmas.Cmp.{then_total, on_total, nat_cmp_total, nat_list_cmp_total}
use Rattle.std.proofs.lemmas.List.MinMax.{ranks_by}
use Rattle.std.proofs.lemmas.List.Sorted.{answers_always}
use Rattle.std.specs.Cmp.{IsTotalOrder}
use Rattle.rule_words.specs.Order.{report_cmp}
use Rattle.rule_words.specs.Reports.{Report}
use Rattle.suppressions.proofs.told.told_reports.Goals as goal

in-order : IsTotalOrder report_cmp
in-order =
    then_total (then_total (then_total (on_total (λ (r : Report). r.start) nat_cmp_total) (on_total (λ (r : Report). r.rule) nat_list_cmp_total))
    (on_total (λ (r : Report). r.stop) nat_cmp_total)) (on_total (λ (r : Report). r.text) nat_list_cmp_total)

pub returns-clause-sorted : goal.returns-clause-sorted
returns-clause-sorted c = λ _.
    c.in_ok-sort_by.ensures.sorted (λ x y. is_lt (report_cmp x y)) (ranks_by in-order (λ (r : Report). r)) (answers_always _ _ _ (λ f a r f' q. search rules))
