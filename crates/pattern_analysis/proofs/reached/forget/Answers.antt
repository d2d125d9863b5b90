use Rattle.pattern_analysis.proofs.MarkOrder.{whole_front}
use Rattle.pattern_analysis.proofs.reached.forget.Goals as goal

pub returns-else-frame-clause-front : goal.returns-else-frame-clause-front
returns-else-frame-clause-front c = whole_front c.args.kept.now.items
