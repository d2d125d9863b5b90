use Rattle.std.proofs.Common.{◌≡◌, ◌++◌, drop}
use Rattle.scopes.specs.Shown.{all_shown}
use Rattle.rule_words.specs.Appends.{Grows}
use Rattle.rules.specs.Used.{is_in, is_marked, of_binding}
use Rattle.rules.specs.Rules.{of_bindings}
use Rattle.rules.proofs.bindings.push_scope.Given as goal

abbrev pub invariant-loop-index : goal.invariant-loop-index
invariant-loop-index l =
    let f = of_binding l.walk.rule l.walk.settings.now (is_in l.walk.alone.now.keys) (is_marked l.used) in
    record {
      found : l.out.items ++ of_bindings f l.scope l.index (all_shown (drop l.index l.bindings)) ≡ l.fn.out.items ++ of_bindings f l.scope 0 (all_shown l.bindings);
      kept : Grows l.fn.out.items l.out.items;
    }
