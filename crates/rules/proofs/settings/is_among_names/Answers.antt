use Rattle.std.proofs.Common.{◌∙◌}
use Rattle.rules.proofs.Lists.{any_at}
use Rattle.rules.proofs.settings.is_among_names.Goals as goal

pub returns : goal.returns
returns c = c.contains.ensures ∙ any_at c.args.name.now c.args.names.now.keys
