use Rattle.std.proofs.Common.{not, ap, ◌∙◌}
use Rattle.tree.specs.Node.{node_tree}
use Rattle.early_errors.specs.Modules.{is_well_formed}
use Rattle.early_errors.proofs.Exports.{lone_given}
use Rattle.early_errors.proofs.modules.has_lone_surrogate.Goals as goal

pub returns : goal.returns
returns c =
    ap not (c.is_well_formed.ensures ∙ ap is_well_formed c.as_slice.ensures.value)
    ∙ lone_given (node_tree c.args.name) c.is_quoted.result c.text.result.now c.in_ok-units.units.items c.is_quoted.ensures c.if-not-is_quoted.false c.text.ensures c.in_ok-units.ensures
