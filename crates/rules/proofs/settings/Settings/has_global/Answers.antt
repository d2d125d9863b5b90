use Rattle.std.proofs.Common.{ap, ◌∙◌}
use Rattle.std.specs.List.{list_any}
use Rattle.std.specs.Str.{bytes_eq}
use Rattle.rules.proofs.settings.Settings.has_global.Goals as goal

pub returns : goal.returns
returns c = c.is_among_names.ensures ∙ ap (λ s. list_any (λ x. bytes_eq c.args.name.now x) s.globals) c.self.view_is
