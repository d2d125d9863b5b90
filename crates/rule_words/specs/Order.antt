-- The order of reports: by start, rule, end and text.
use Rattle.std.specs.Ordering.{nat_cmp, ordering_then}
use Rattle.std.specs.Cmp.Lexicographic.{slice_cmp}
use Rattle.std.specs.declared.cmp.Ordering.{Ordering}
use Rattle.rule_words.specs.Reports.{Report}

abbrev pub report_cmp : Report → Report → Ordering
report_cmp a b = ordering_then (ordering_then (ordering_then (nat_cmp a.start b.start) (slice_cmp nat_cmp a.rule b.rule)) (nat_cmp a.stop b.stop)) (slice_cmp nat_cmp a.text b.text)
