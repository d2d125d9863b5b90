use Rattle.std.proofs.Common.{◌∙◌}
use Rattle.pattern_analysis.proofs.NumberSearch.{found}
use Rattle.pattern_analysis.proofs.kept.is_among.Goals as goal

pub returns : goal.returns
returns c = λ up. c.is_ok.ensures.value ∙ found c.args.number c.args.numbers.now c.binary_search.result c.binary_search.ensures.position up
