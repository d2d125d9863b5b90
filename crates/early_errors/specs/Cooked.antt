-- Which templates have cooked values.
use Rattle.std.specs.Prelude.{ℕ, Bool, List, is_some}
use Rattle.tokens.specs.Templates.{cooked_value}
use Rattle.language.specs.Strings.{points}

-- a template part's raw value, which is in UTF-8, has a cooked value (11.8.6.1)
abbrev pub cooks : List ℕ → Bool
cooks text = is_some (cooked_value (points text))
