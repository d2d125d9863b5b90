use Rattle.std.proofs.Common.{◌++◌, append-nil, ap, sym, ◌∙◌}
use Rattle.flow_rules.proofs.Together.{no-rules}
use Rattle.flow_rules.proofs.walk.push_found.Goals as goal

-- no rule finds anything
pub returns-then-is_empty-clause-found : goal.returns-then-is_empty-clause-found
returns-then-is_empty-clause-found c =
    sym (append-nil c.args.out.now.items) ∙ ap (λ l. c.args.out.now.items ++ l) (sym (no-rules c.args.source.now c.args.rules.now c.args.program.now (sym c.is_empty.ensures ∙ c.if-is_empty.true)))
