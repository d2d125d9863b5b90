use Rattle.std.proofs.Common.{◌++◌, append-nil, ap, sym, ◌∙◌}
use Rattle.tree.specs.Node.{node_tree}
use Rattle.node_rules.specs.Arounds.{at_place, round_root}
use Rattle.node_rules.specs.Due.{of_due}
use Rattle.node_rules.specs.Over.{over_nodes}
use Rattle.rule_words.proofs.Results.{on_ok}
use Rattle.node_rules.proofs.DueLemmas.{due-found}
use Rattle.node_rules.proofs.Together.{no-rules}
use Rattle.node_rules.proofs.walk.push_found.Goals as goal

pub returns-clause-found : goal.returns-clause-found
returns-clause-found c =
    on_ok c.push_nodes.result
    (λ h. h ∙ ap (λ a. c.args.out.now.items ++ over_nodes (of_due c.args.options c.args.source.now c.in_ok-due.due) (at_place a 0) (node_tree c.root.result)) c.root-around.ensures
    ∙ ap (λ t. c.args.out.now.items ++ over_nodes (of_due c.args.options c.args.source.now c.in_ok-due.due) round_root t) c.root.ensures
    ∙ ap (λ l. c.args.out.now.items ++ l) (due-found c.args.options c.args.source.now c.args.rules.now c.in_ok-due.due c.args.program.now c.in_ok-due.ensures))
    c.push_nodes.ensures.found

-- no rule finds anything
pub returns-then-is_empty-clause-found : goal.returns-then-is_empty-clause-found
returns-then-is_empty-clause-found c =
    sym (append-nil c.args.out.now.items)
    ∙ ap (λ l. c.args.out.now.items ++ l) (sym (no-rules c.args.options c.args.source.now c.args.rules.now c.args.program.now (sym c.is_empty.ensures ∙ c.if-is_empty.true)))
