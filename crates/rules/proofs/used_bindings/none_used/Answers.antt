use Rattle.scopes.specs.Shown.{shown}
use Rattle.rules.proofs.Flags.{count-at, scope-turn}
use Rattle.rules.proofs.used_bindings.none_used.Goals as goal

pub loop-scope-preserved : goal.loop-scope-preserved
loop-scope-preserved c =
    let more = scope-turn c.args.scopes.now.scopes c.loop-scope.used c.push_scope.new.self c.loop-scope.scope _ (count-at shown c.args.scopes.now.scopes c.loop-scope.scope c.bindings.result.now c.bindings.ensures)
    c.in_ok-push_scope.ensures.firsts c.in_ok-push_scope.ensures.flags c.loop-scope.invariant.laid_out c.loop-scope.invariant.unused in
    record { laid_out = more.0; unused = more.1 }
