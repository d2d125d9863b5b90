-- A view in the words of the definitions.
use Rattle.std.specs.Prelude.{[], Option, Some, None, option_map}
use Rattle.scopes.specs.Found.{Found}
use Rattle.rules.specs.declared.view.View.{View as CodeView}
use Rattle.rules.specs.Rules.{View}

-- where scopes aren't there, nothing is found
abbrev pub found_or_nothing : Option Found → Found
found_or_nothing None = record { scopes = []; references = [] }
found_or_nothing (Some found) = found

abbrev pub seen : CodeView → View
seen v = record { tree = v.program.now; text = v.text.now; found = found_or_nothing (option_map (λ s. s.now) v.scopes); extra = v.extra.now; settings = v.settings.now }
