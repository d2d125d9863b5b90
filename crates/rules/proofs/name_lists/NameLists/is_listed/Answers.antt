use Rattle.std.proofs.Common.{ap, ◌∙◌}
use Rattle.std.specs.List.{list_any}
use Rattle.rules.specs.NamePatterns.{stands_for}
use Rattle.rules.proofs.Lists.{any_mapped}
use Rattle.rules.proofs.name_lists.NameLists.is_listed.Goals as goal

pub returns : goal.returns
returns c = c.is_any.ensures ∙ any_mapped (λ text. stands_for text c.args.name.now) c.names.result.now ∙ ap (list_any (λ text. stands_for text c.args.name.now)) c.names.ensures
