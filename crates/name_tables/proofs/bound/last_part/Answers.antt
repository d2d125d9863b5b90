use Rattle.std.proofs.Common.{sym, ◌∙◌}
use Rattle.name_tables.proofs.EachPart.{none_at}
use Rattle.name_tables.proofs.bound.last_part.Goals as goal

pub returns-then-count-eq0 : goal.returns-then-count-eq0
returns-then-count-eq0 c = none_at _ (sym c.part_count-count.ensures ∙ c.if-count-eq0.true) _
