use Rattle.std.proofs.Common.{◌∙◌}
use Rattle.pattern_analysis.proofs.NumberSearch.{taken_of}
use Rattle.pattern_analysis.proofs.kept.keep_up_to.Goals as goal

pub returns-clause-same : goal.returns-clause-same
returns-clause-same c = λ up.
    c.truncate.ensures.items ∙ taken_of c.args.last c.args.numbers.now.items c.deref.result.now c.count_up_to-count.result c.deref.ensures.value c.count_up_to-count.ensures up

pub returns-clause-front : goal.returns-clause-front
returns-clause-front c = record { count = c.count_up_to-count.result; same = c.truncate.ensures.items }
