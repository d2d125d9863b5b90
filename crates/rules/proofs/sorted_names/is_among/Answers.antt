use Rattle.std.proofs.Common.{◌∙◌}
use Rattle.rules.proofs.SortedNames.{found}
use Rattle.rules.proofs.sorted_names.is_among.Goals as goal

pub returns : goal.returns
returns c = c.is_ok.ensures.value ∙ found c.args.name.now c.args.names.now c.binary_search.result c.requires c.binary_search.ensures.bound c.binary_search.ensures.position
