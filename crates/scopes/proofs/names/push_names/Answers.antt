use Rattle.std.proofs.Common.{false}
use Rattle.tree.specs.Node.{node_tree}
use Rattle.scopes.specs.Shown.{made_of}
use Rattle.name_tables.proofs.Results.{on_ok}
use Rattle.name_tables.proofs.Retold.{retold}
use Rattle.scopes.proofs.names.push_names.Goals as goal

pub returns : goal.returns
returns c = on_ok c.push_names.result (retold made_of (record { kind = c.args.kind; settled = false; exported = false }) c.push_names.new.names.items c.args.names.now.items (node_tree c.args.node)) c.push_names.ensures
