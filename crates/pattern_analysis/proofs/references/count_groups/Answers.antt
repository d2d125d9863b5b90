use Rattle.std.proofs.lemmas.Str.{IsCharBoundary-start}
use Rattle.pattern_analysis.proofs.MarkSteps.{marks_begin, marks_go_on, marks_end}
use Rattle.pattern_analysis.proofs.references.count_groups.Goals as goal

pub loop-first-init : goal.loop-first-init
loop-first-init c = marks_begin c.args.text.now (IsCharBoundary-start c.args.text.now c.utf8.text)

pub loop-first-preserved : goal.loop-first-preserved
loop-first-preserved c =
    let within = c.in-Some.ensures.within in
    let read = c.mark_at-read.result in
    marks_go_on c.args.text.now c.loop-first.at c.in-Some.first.end read.end c.in-Some.first.c c.loop-first.count c.group_count_of-count.result c.loop-first.in_class read.in_class read.mark
    c.loop-first.invariant within.0 c.in-Some.ensures.some c.mark_at-read.ensures c.group_count_of-count.ensures

pub returns : goal.returns
returns c = marks_end c.args.text.now c.loop-first.at c.loop-first.count c.loop-first.in_class c.loop-first.invariant c.in_default.ensures.none
