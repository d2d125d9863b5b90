use Rattle.std.proofs.Common.{◌∙◌, ◌-◌, [], length, drop}
use Rattle.tree.specs.Flat.{trees}
use Rattle.tree.proofs.FlatTrees.{AreBefore-drop, AreBefore-take}
use Rattle.tree.proofs.Runs.{rest_named, rest_named_past}
use Rattle.tree.proofs.flat_list.FlatList.skip.Goals as goal

pub new-requires : goal.new-requires
new-requires c =
    let n = length c.args.self.tree.now.nodes.items in
    let os = c.args.self.parts.now in
    AreBefore-take n (length os - c.args.count) (drop c.args.count os) (AreBefore-drop n c.args.count os c.args.self.before)

pub returns-then-count-parts : goal.returns-then-count-parts
returns-then-count-parts c = c.new.ensures.parts ∙ rest_named (trees c.args.self.tree.now.parts.items [] c.args.self.tree.now.nodes.items) c.args.self.parts.now c.args.count

pub returns : goal.returns
returns c = c.new-2.ensures.parts ∙ rest_named_past (trees c.args.self.tree.now.parts.items [] c.args.self.tree.now.nodes.items) c.args.self.parts.now c.args.count c.if-count-parts.false
