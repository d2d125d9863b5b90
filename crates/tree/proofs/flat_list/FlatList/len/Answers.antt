use Rattle.std.proofs.Common.{sym, []}
use Rattle.tree.specs.Flat.{trees}
use Rattle.tree.proofs.Runs.{count_named}
use Rattle.tree.proofs.flat_list.FlatList.len.Goals as goal

pub returns : goal.returns
returns c = sym (count_named (trees c.args.self.tree.now.parts.items [] c.args.self.tree.now.nodes.items) c.args.self.parts.now)
