use Rattle.pairless_laws.proofs.FreeSpans.{spans_derived_free}
use Rattle.pairless_laws.proofs.laws.pairless_spans_cost_nothing.Goals as goal

pub returns : goal.returns
returns c = λ text n P d. spans_derived_free text n P d
