use Rattle.std.proofs.Common.{ap, ◌∙◌}
use Rattle.early_errors.specs.Early.{errors, least}
use Rattle.name_tables.proofs.Results.{if_ok}
use Rattle.early_errors.proofs.first_early_error.Goals as goal

pub returns : goal.returns
returns c = if_ok c.found_from-found.result _ _ (λ r h. h ∙ ap (λ u. least (errors u)) c.root-root.ensures) c.found_from-found.ensures
