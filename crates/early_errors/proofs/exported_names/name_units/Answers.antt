use Rattle.name_tables.proofs.Results.{if_ok}
use Rattle.early_errors.proofs.Exports.{quoted_bytes, units_given}
use Rattle.early_errors.proofs.exported_names.name_units.Goals as goal

pub returns : goal.returns
returns c =
    let name = c.args.name.now in
    let bytes = quoted_bytes _ _ _ _ _ name c.in_ok-quoted.ensures.bytes c.in_ok-push.ensures.bytes c.in_ok-push_str.ensures.bytes c.in_ok-push-2.ensures.bytes c.as_str.ensures.value in
    if_ok c.quoted_units.result _ _ (λ v x. units_given v.items c.as_str.result.now name x bytes) c.quoted_units.ensures
