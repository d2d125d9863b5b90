use Rattle.std.proofs.Common.{◌≡◌, ◌++◌, drop}
use Rattle.rule_words.specs.Appends.{Grows}
use Rattle.reference_rules.specs.Found.{over_scopes}
use Rattle.reference_rules.proofs.walk.push_scopes.Given as goal

abbrev pub invariant-loop-scope : goal.invariant-loop-scope
invariant-loop-scope l = record {
  found : l.out.items ++ over_scopes l.pass.profile l.pass.rules.now l.scope (drop l.scope l.scopes.scopes) ≡ l.fn.out.items ++ over_scopes l.pass.profile l.pass.rules.now 0 l.scopes.scopes;
  kept : Grows l.fn.out.items l.out.items;
}
