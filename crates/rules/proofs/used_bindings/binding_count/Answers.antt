use Rattle.std.proofs.Common.{subst, ◌≤◌}
use Rattle.scopes.specs.Shown.{shown}
use Rattle.rules.proofs.Flags.{count-at, count-past}
use Rattle.rules.proofs.used_bindings.binding_count.Goals as goal

pub returns-then-scope-scope_count : goal.returns-then-scope-scope_count
returns-then-scope-scope_count c = count-at shown c.args.scopes.now.scopes c.args.scope c.bindings.result.now c.bindings.ensures

pub returns-else-scope-scope_count : goal.returns-else-scope-scope_count
returns-else-scope-scope_count c = count-past c.args.scopes.now.scopes c.args.scope (subst (λ n. n ≤ c.args.scope) c.scope_count.ensures c.if-scope-scope_count.false)
