use Rattle.std.proofs.Common.{ap, ◌∙◌}
use Rattle.std.specs.List.{list_any}
use Rattle.std.specs.Str.{bytes_eq}
use Rattle.rules.specs.EnvironmentNames.{is_html_interface}
use Rattle.rules.proofs.window_names.is_html_interface.Goals as goal

pub returns : goal.returns
unfolding is_html_interface
returns c = c.is_among.ensures ∙ ap (list_any (λ known. bytes_eq c.args.name.now known.now)) c.as_slice.ensures
