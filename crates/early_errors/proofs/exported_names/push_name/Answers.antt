use Rattle.std.proofs.Common.{◌++◌, [], ◌∷◌, ap, ◌∙◌}
use Rattle.std.proofs.lemmas.List.{map-append}
use Rattle.early_errors.specs.ExportsRead.{all_exported, exported_shown}
use Rattle.early_errors.proofs.exported_names.push_name.Goals as goal

pub returns : goal.returns
returns c =
    let old = c.args.names.now.items in
    ap all_exported c.in_ok-push.ensures.items ∙ map-append exported_shown old (_ ∷ []) ∙ ap (λ u. all_exported old ++ (u, c.args.start) ∷ []) c.in_ok-units.ensures
