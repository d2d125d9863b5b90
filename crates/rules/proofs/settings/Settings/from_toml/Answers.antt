use Rattle.rules.proofs.KnownKeys.{text_told}
use Rattle.rules.proofs.settings.Settings.from_toml.Goals as goal

pub returns-in-Ok-clause-refused : goal.returns-in-Ok-clause-refused
returns-in-Ok-clause-refused c = text_told _ _ c.settings_of.result c.in-Ok.ensures.ok c.settings_of.ensures.bad
