use Rattle.std.proofs.Common.{false}
use Rattle.tree.specs.Node.{node_tree}
use Rattle.tree.specs.Tree.{parts_of, parts_drop}
use Rattle.scopes.specs.declared.kind.BindingKind.TheVariants.{Param}
use Rattle.scopes.specs.Shown.{made_of}
use Rattle.name_tables.proofs.Results.{on_ok}
use Rattle.name_tables.proofs.Retold.{retold-parameters}
use Rattle.scopes.proofs.names.push_parameters.Goals as goal

pub returns : goal.returns
returns c =
    on_ok c.push_parameters.result
    (retold-parameters made_of (record { kind = Param; settled = false; exported = false }) c.push_parameters.new.names.items c.args.names.now.items (parts_drop c.args.from (parts_of (node_tree c.args.function))))
    c.push_parameters.ensures
