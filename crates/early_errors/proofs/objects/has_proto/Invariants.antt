use Rattle.std.proofs.Common.{◌≡◌}
use Rattle.tree.specs.Node.{node_tree}
use Rattle.tree.specs.Tree.{parts_of, parts_drop}
use Rattle.name_tables.specs.BoundNames.{each_part}
use Rattle.early_errors.specs.Objects.{proto_places}
use Rattle.early_errors.proofs.objects.has_proto.Given as goal

abbrev pub invariant-loop-index : goal.invariant-loop-index
invariant-loop-index l = each_part proto_places (parts_of (node_tree l.object)) ≡ each_part proto_places (parts_drop l.index (parts_of (node_tree l.object)))
