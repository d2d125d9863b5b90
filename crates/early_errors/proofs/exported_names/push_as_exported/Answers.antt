use Rattle.std.proofs.Common.{◌++◌, ap, ◌∙◌}
use Rattle.std.specs.Prelude.{map}
use Rattle.std.proofs.lemmas.List.{take_all}
use Rattle.early_errors.specs.ExportsRead.{all_exported}
use Rattle.early_errors.specs.Modules.{in_units}
use Rattle.early_errors.specs.Walk.{all_named}
use Rattle.early_errors.proofs.Exports.{as_exported_more}
use Rattle.early_errors.proofs.exported_names.push_as_exported.Goals as goal

pub loop-named-preserved : goal.loop-named-preserved
loop-named-preserved c =
    as_exported_more c.args.declared.now c.loop-named.named-index _ (all_exported c.args.names.now.items) (all_exported c.loop-named.names.items) (all_exported c.push_name.new.names.items) c.loop-named-test.true c.loop-named.invariant c.in_ok-push_name.ensures

pub returns : goal.returns
returns c = c.loop-named.invariant ∙ ap (λ l. all_exported c.args.names.now.items ++ map in_units (all_named l)) (take_all c.loop-named.named-index c.args.declared.now c.loop-named-test.false)
