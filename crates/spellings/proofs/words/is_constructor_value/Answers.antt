use Rattle.std.proofs.Common.{◌∙◌, ap, sym}
use Rattle.std.specs.Prelude.{codes}
use Rattle.std.specs.Str.{bytes_eq}
use Rattle.tokens.specs.Strings.{string_units}
use Rattle.spellings.proofs.Points.{points_are_chars}
use Rattle.spellings.proofs.words.is_constructor_value.Goals as goal

pub returns : goal.returns
returns c = c.string_is.ensures ∙ ap (λ x. bytes_eq (string_units x) (codes "constructor")) (sym (points_are_chars c.args.raw.now))
