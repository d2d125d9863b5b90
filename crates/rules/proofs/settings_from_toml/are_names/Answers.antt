use Rattle.std.proofs.Common.{◌∙◌}
use Rattle.rules.proofs.KnownKeys.{names_known}
use Rattle.rules.proofs.settings_from_toml.are_names.Goals as goal

pub returns : goal.returns
returns c = c.are_known_once.ensures ∙ names_known c.args.names.now.keys c.args.values.now
