use Rattle.std.proofs.Common.{◌≡◌, false, replicate}
use Rattle.rules.specs.Used.{IsLaidOut, bindings_before}
use Rattle.rules.proofs.used_bindings.none_used.Given as goal

abbrev pub invariant-loop-scope : goal.invariant-loop-scope
invariant-loop-scope l = record {
  laid_out : IsLaidOut l.scopes.scopes l.scope l.used;
  unused : l.used.flags.items ≡ replicate (bindings_before l.scope l.scopes.scopes) false;
}
