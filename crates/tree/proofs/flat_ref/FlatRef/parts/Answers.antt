use Rattle.std.proofs.Common.{◌∙◌, ap, [], map, take, drop}
use Rattle.tree.specs.Tree.{parts_with_gaps}
use Rattle.tree.specs.Flat.{trees, named}
use Rattle.tree.proofs.FlatTrees.{Pool}
use Rattle.tree.proofs.flat_ref.FlatRef.parts.Goals as goal

pub section-requires : goal.section-requires
section-requires c = rw c.deref.ensures.value c.args.self.linked.0

pub new-requires : goal.new-requires
new-requires c = rw (c.section.ensures, c.deref.ensures.value) c.args.self.linked.1

pub returns-clause-parts : goal.returns-clause-parts
returns-clause-parts c =
    c.new.ensures.parts
    ∙ ap (λ (os : Pool). parts_with_gaps (map (named (trees c.args.self.tree.now.parts.items [] c.args.self.tree.now.nodes.items)) os))
    (c.section.ensures ∙ ap (λ (os : Pool). take c.args.self.node.now.count (drop c.args.self.node.now.first os)) c.deref.ensures.value)
