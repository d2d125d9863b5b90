use Rattle.tree.specs.Node.{node_tree}
use Rattle.tree.specs.Tree.{parts_of}
use Rattle.early_errors.specs.Walk.{name_of}
use Rattle.name_tables.proofs.Results.{on_ok}
use Rattle.name_tables.proofs.Retold.{retold-declarators}
use Rattle.early_errors.proofs.names.push_declared.Goals as goal

pub returns : goal.returns
returns c =
    on_ok c.push_declarators.result (retold-declarators name_of (λ ps. tt) c.push_declarators.new.names.items c.args.names.now.items (parts_of (node_tree c.args.node))) c.push_declarators.ensures
