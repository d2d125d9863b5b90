use Rattle.std.proofs.Common.{◌∙◌, [], length}
use Rattle.tree.specs.Flat.{trees}
use Rattle.tree.proofs.FlatTrees.{AreBefore-take}
use Rattle.tree.proofs.Runs.{take_named, take_named_past}
use Rattle.tree.proofs.flat_list.FlatList.take.Goals as goal

pub new-requires : goal.new-requires
new-requires c = AreBefore-take (length c.args.self.tree.now.nodes.items) c.args.count c.args.self.parts.now c.args.self.before

pub returns-then-count-parts : goal.returns-then-count-parts
returns-then-count-parts c = c.new.ensures.parts ∙ take_named (trees c.args.self.tree.now.parts.items [] c.args.self.tree.now.nodes.items) c.args.self.parts.now c.args.count

pub returns : goal.returns
returns c = take_named_past (trees c.args.self.tree.now.parts.items [] c.args.self.tree.now.nodes.items) c.args.self.parts.now c.args.count c.if-count-parts.false
