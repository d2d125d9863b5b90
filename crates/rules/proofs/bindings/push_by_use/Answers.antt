use Rattle.std.proofs.Common.{◌≡◌, ◌++◌, subst}
use Rattle.std.specs.Prelude.{OnOk}
use Rattle.rules.specs.Rules.{is_used}
use Rattle.rules.specs.Used.{Notes, asks_writes, is_in}
use Rattle.rules.proofs.Flags.{said-same}
use Rattle.rules.proofs.bindings.push_by_use.Goals as goal

pub returns-clause-found : goal.returns-clause-found
returns-clause-found c alone same =
    subst (λ rs. OnOk c.push_bindings.result (c.push_bindings.new.out.items ≡ c.args.out.now.items ++ rs))
    (said-same c.args.walk.rule c.args.walk.settings.now alone (is_in c.args.walk.alone.now.keys) c.args.scopes.now.scopes c.in_ok-used.used (is_used (asks_writes c.args.walk.rule) c.args.scopes.now.references) same
    (subst (λ w. Notes c.args.scopes.now.scopes (is_used w c.args.scopes.now.references) c.in_ok-used.used) c.asks_writes.ensures c.in_ok-used.ensures))
    c.push_bindings.ensures.found
