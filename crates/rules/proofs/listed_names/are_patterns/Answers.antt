use Rattle.std.proofs.Common.{◌∙◌}
use Rattle.rules.proofs.KnownKeys.{texts_fit}
use Rattle.rules.proofs.listed_names.are_patterns.Goals as goal

pub returns : goal.returns
returns c = c.few_patterns.ensures ∙ texts_fit c.args.values.now
