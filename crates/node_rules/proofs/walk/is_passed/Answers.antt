use Rattle.std.proofs.Common.{length, nat_eq, sym, ap, ◌∙◌}
use Rattle.tree.specs.Node.{node_tree}
use Rattle.node_rules.specs.Due.{are_silent, due_at}
use Rattle.node_rules.proofs.SilentLemmas.{by-parts}
use Rattle.node_rules.proofs.walk.is_passed.Goals as goal

pub returns : goal.returns
returns c h =
    by-parts c.args.due.now (node_tree c.args.node)
    (sym (c.is_empty.ensures ∙ ap (λ rules. nat_eq (length rules) 0) (c.at.ensures ∙ ap (due_at c.args.due.now) c.kind.ensures)) ∙ c.if-not-is_empty.false)
    (ap (are_silent c.args.due.now) (sym c.parts.ensures) ∙ c.are_silent_leaves.ensures h)
