use Rattle.std.proofs.Common.{◌++◌, append-nil, ap, sym, ◌∙◌, append_assoc}
use Rattle.rule_words.proofs.Results.{on_ok}
use Rattle.reference_rules.specs.Found.{over_references, over_scopes}
use Rattle.reference_rules.proofs.Passes.{grown}
use Rattle.reference_rules.proofs.Together.{no-rules}
use Rattle.reference_rules.proofs.walk.push_found.Goals as goal

-- no rule finds anything
pub returns-then-is_empty-clause-found : goal.returns-then-is_empty-clause-found
returns-then-is_empty-clause-found c =
    sym (append-nil c.args.out.now.items)
    ∙ ap (λ l. c.args.out.now.items ++ l) (sym (no-rules c.args.profile c.args.rules.now c.args.scopes.now (sym c.is_empty.ensures ∙ c.if-is_empty.true)))

pub returns-clause-found : goal.returns-clause-found
returns-clause-found c =
    let p = c.args.profile in
    let rules = c.args.rules.now in
    let ss = c.args.scopes.now.scopes in
    on_ok c.push_scopes.result
    (λ h. h ∙ ap (λ l. l ++ over_scopes p rules 0 ss) c.in_ok-push_references.ensures.found
    ∙ append_assoc c.args.out.now.items (over_references p rules ss _) (over_scopes p rules 0 ss)
    ∙ ap (λ rs. c.args.out.now.items ++ (over_references p rules ss rs ++ over_scopes p rules 0 ss)) c.references.ensures)
    c.push_scopes.ensures.found

pub returns-clause-kept : goal.returns-clause-kept
returns-clause-kept c = grown c.args.out.now.items c.push_references.new.out.items c.push_scopes.new.out.items c.in_ok-push_references.ensures.kept c.push_scopes.ensures.kept
