use Rattle.pairless_laws.proofs.FreeSpans.{spans_derived_free_in}
use Rattle.pairless_laws.proofs.laws.pairless_spans_cost_nothing_in.Goals as goal

pub returns : goal.returns
returns c = λ language text n P d. spans_derived_free_in language text n P d
