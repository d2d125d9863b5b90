use Rattle.std.proofs.Common.{◌≡◌, ◌++◌, drop}
use Rattle.rule_words.specs.Appends.{Grows}
use Rattle.rules.specs.Used.{is_in, is_marked, of_binding}
use Rattle.rules.specs.Rules.{of_scopes}
use Rattle.rules.proofs.bindings.push_bindings.Given as goal

abbrev pub invariant-loop-scope : goal.invariant-loop-scope
invariant-loop-scope l =
    let f = of_binding l.walk.rule l.walk.settings.now (is_in l.walk.alone.now.keys) (is_marked l.used) in
    record {
      found : l.out.items ++ of_scopes f l.scope (drop l.scope l.scopes.scopes) ≡ l.fn.out.items ++ of_scopes f 0 l.scopes.scopes;
      kept : Grows l.fn.out.items l.out.items;
    }
