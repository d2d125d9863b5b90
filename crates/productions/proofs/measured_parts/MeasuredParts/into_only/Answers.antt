use Rattle.std.proofs.Common.{sym, ◌∙◌, arith}
use Rattle.productions.proofs.Growing.{only_one}
use Rattle.productions.proofs.measured_parts.MeasuredParts.into_only.Goals as goal

pub invariant_of-result : goal.invariant_of-result
invariant_of-result c = only_one c.self.inside.shown.parts c.in-Some.summary (omega arith) (sym c.in-Some.is ∙ c.self.invariant.2)

pub returns-clause-only : goal.returns-clause-only
returns-clause-only c = sym c.self.view_is ∙ (only_one c.self.inside.shown.parts c.in-Some.summary (omega arith) (sym c.in-Some.is ∙ c.self.invariant.2)).0
