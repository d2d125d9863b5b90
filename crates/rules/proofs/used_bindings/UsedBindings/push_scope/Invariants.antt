use Rattle.std.proofs.Common.{◌≡◌, ◌++◌, ◌∷◌, [], false, length, replicate}
use Rattle.rules.proofs.used_bindings.UsedBindings.push_scope.Given as goal

abbrev pub invariant-loop : goal.invariant-loop
invariant-loop l = record {
  firsts : l.self.firsts.items ≡ l.fn.self.firsts.items ++ length l.fn.self.flags.items ∷ [];
  flags : l.self.flags.items ≡ l.fn.self.flags.items ++ replicate l.counter false;
}
