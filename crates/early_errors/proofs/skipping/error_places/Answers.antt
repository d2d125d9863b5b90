use Rattle.std.proofs.Common.{sym, ap, ◌∙◌}
use Rattle.tree.specs.Node.{node_tree}
use Rattle.early_errors.specs.Passed.{telling_of}
use Rattle.early_errors.proofs.PartsByKind.{open_kind}
use Rattle.early_errors.proofs.skipping.error_places.Goals as goal

pub returns-in-Kind : goal.returns-in-Kind
returns-in-Kind c = open_kind c.args.no_arguments (node_tree c.args.node) (ap telling_of (sym c.kind.ensures) ∙ sym c.skip_test_of.ensures ∙ c.in-Kind.is)
