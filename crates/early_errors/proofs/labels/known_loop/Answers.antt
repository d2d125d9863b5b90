use Rattle.std.proofs.Common.{sym, ◌∙◌}
use Rattle.tree.specs.Node.{node_tree}
use Rattle.tree.specs.Tree.{parts_of}
use Rattle.early_errors.proofs.Insides.{the_second}
use Rattle.early_errors.proofs.labels.known_loop.Goals as goal

pub returns-then-part_count-eq2 : goal.returns-then-part_count-eq2
returns-then-part_count-eq2 c = λ i u l e. c.requires ∙ the_second (parts_of (node_tree c.args.node)) i u (sym c.part_count.ensures ∙ c.if-part_count-eq2.true) l e
