use Rattle.std.proofs.Common.{length, nat_eq, sym, ap, ◌∙◌}
use Rattle.tree.specs.Node.{node_tree}
use Rattle.node_rules.specs.Arounds.{at_place}
use Rattle.node_rules.specs.Due.{due_at}
use Rattle.node_rules.proofs.SilentLemmas.{due-of-none}
use Rattle.node_rules.proofs.walk.push_due.Goals as goal

-- no rule looks at the node
pub returns-then-is_empty-clause-found : goal.returns-then-is_empty-clause-found
returns-then-is_empty-clause-found c =
    due-of-none c.args.walk.now.options c.args.walk.now.source.now c.args.walk.now.due.now (at_place c.args.around.now c.args.place) (node_tree c.args.node) c.args.out.now.items
    (sym (c.is_empty.ensures ∙ ap (λ rules. nat_eq (length rules) 0) (c.at-due.ensures ∙ ap (due_at c.args.walk.now.due.now) c.kind.ensures)) ∙ c.if-is_empty.true)
