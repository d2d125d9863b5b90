use Rattle.std.proofs.Common.{◌∙◌}
use Rattle.pattern_analysis.specs.UselessReferences.{outermost}
use Rattle.pattern_analysis.proofs.FrameSearch.{none_holds, one_holds}
use Rattle.pattern_analysis.proofs.frame.holding_around.Goals as goal

pub returns-then-count-eq0 : goal.returns-then-count-eq0
returns-then-count-eq0 c = λ up. c.outermost.ensures ∙ none_holds c.args.number c.args.around.now c.count_before-count.result (c.count_before-count.ensures.point up) c.if-count-eq0.true

pub returns : goal.returns
returns c = λ up.
    one_holds c.args.number c.args.around.now c.count_before-count.result outermost c.count_before-count.ensures.within (c.count_before-count.ensures.point up) c.if-count-eq0.false
