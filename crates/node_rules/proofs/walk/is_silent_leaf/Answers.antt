use Rattle.std.proofs.Common.{length, nat_eq, sym, ap, ◌∙◌, arith}
use Rattle.tree.specs.Node.{node_tree}
use Rattle.node_rules.specs.Due.{due_at}
use Rattle.node_rules.proofs.SilentLemmas.{silent-leaf}
use Rattle.node_rules.proofs.walk.is_silent_leaf.Goals as goal

-- a node without parts
pub returns : goal.returns
returns c h =
    silent-leaf c.args.due.now (node_tree c.args.node) (sym (c.is_empty.ensures ∙ ap (λ rules. nat_eq (length rules) 0) (c.at.ensures ∙ ap (due_at c.args.due.now) c.kind.ensures)) ∙ h)
    (sym c.part_count.ensures ∙ omega (arith, c.if-part_count-gt0.false))
