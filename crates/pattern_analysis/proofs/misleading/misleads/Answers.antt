use Rattle.std.proofs.Common.{sym}
use Rattle.std.proofs.lemmas.Str.{IsCharBoundary-start}
use Rattle.pattern_analysis.proofs.ReadSteps.{classes_begin, classes_go_on, classes_mislead, classes_end}
use Rattle.pattern_analysis.proofs.misleading.misleads.Goals as goal

pub loop-first-init : goal.loop-first-init
loop-first-init c = classes_begin c.args.is_unicode c.args.text.now (IsCharBoundary-start c.args.text.now c.utf8.text)

pub loop-first-preserved : goal.loop-first-preserved
loop-first-preserved c =
    classes_go_on c.args.is_unicode c.args.text.now c.loop-first.at c.in-Some.first.end c.read_step-step.result.end c.in-Some.first.c c.loop-first.standing c.read_step-step.result.standing c.loop-first.sight.before c.loop-first.sight.last
    c.in-Some-see_read.next.before c.in-Some-see_read.next.last c.read_step-step.result.seen c.loop-first.invariant c.in-Some.ensures.some c.read_step-step.ensures c.in-Some-see_read.ensures.some

pub returns-in_default-see_read : goal.returns-in_default-see_read
returns-in_default-see_read c =
    sym (classes_mislead c.args.is_unicode c.args.text.now c.loop-first.at c.in-Some.first.end c.read_step-step.result.end c.in-Some.first.c c.loop-first.standing c.read_step-step.result.standing c.loop-first.sight.before c.loop-first.sight.last
    c.read_step-step.result.seen c.loop-first.invariant c.in-Some.ensures.some c.read_step-step.ensures c.in_default-see_read.ensures.none)

pub returns : goal.returns
returns c = sym (classes_end c.args.is_unicode c.args.text.now c.loop-first.at c.loop-first.standing c.loop-first.sight.before c.loop-first.sight.last c.loop-first.invariant c.in_default.ensures.none)
