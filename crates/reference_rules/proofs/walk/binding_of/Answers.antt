use Rattle.std.proofs.Common.{ap, sym, ◌∙◌, subst, ◌≤◌}
use Rattle.scopes.specs.Shown.{all_shown}
use Rattle.reference_rules.specs.Found.{meant}
use Rattle.reference_rules.proofs.Passes.{meant-in, meant-past}
use Rattle.reference_rules.proofs.walk.binding_of.Goals as goal

pub returns-then-scope-scope_count : goal.returns-then-scope-scope_count
returns-then-scope-scope_count c =
    let ss = c.args.scopes.now.scopes in
    c.binding_at.ensures ∙ meant-in ss c.in-Some.scope c.in-Some.place (all_shown c.bindings.result.now) c.bindings.ensures ∙ ap (meant ss) (sym c.in-Some.is)

pub returns-else-scope-scope_count : goal.returns-else-scope-scope_count
returns-else-scope-scope_count c =
    let ss = c.args.scopes.now.scopes in
    meant-past ss c.in-Some.scope c.in-Some.place (subst (λ n. n ≤ c.in-Some.scope) c.scope_count.ensures c.if-scope-scope_count.false) ∙ ap (meant ss) (sym c.in-Some.is)
