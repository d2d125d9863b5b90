use Rattle.std.proofs.Common.{◌∙◌}
use Rattle.tree.specs.Node.{node_tree}
use Rattle.early_errors.proofs.Jumps.{label_alone, label_follows}
use Rattle.early_errors.proofs.labels.label_is_loop.Goals as goal

pub returns-then-part_count-lt2 : goal.returns-then-part_count-lt2
returns-then-part_count-lt2 c = λ k. label_alone (node_tree c.args.node) c.part_count.result c.part_count.ensures c.if-part_count-lt2.true

pub returns-in-Some : goal.returns-in-Some
returns-in-Some c = λ k. let r = rw c.in-Some.is at c.requires in r ∙ label_follows (node_tree c.args.node) c.part_count.result c.part_count.ensures c.if-part_count-lt2.false k

pub returns-in-None : goal.returns-in-None
returns-in-None c = λ k. c.labels_loop.ensures ∙ label_follows (node_tree c.args.node) c.part_count.result c.part_count.ensures c.if-part_count-lt2.false k
