use Rattle.std.proofs.Common.{ap, ◌∙◌}
use Rattle.early_errors.specs.Walk.{look}
use Rattle.early_errors.proofs.table.Table.take.Goals as goal

pub returns-clause-after : goal.returns-clause-after
returns-clause-after g c = λ w. ap (λ t. look t w) c.replace.ensures.after ∙ c.new.ensures w
