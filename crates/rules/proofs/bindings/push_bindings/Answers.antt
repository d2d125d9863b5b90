use Rattle.scopes.specs.Shown.{all_shown}
use Rattle.rules.specs.Used.{is_in, is_marked, of_binding}
use Rattle.node_rules.proofs.WalkLemmas.{grows-on}
use Rattle.rules.proofs.AppendLoops.{scopes-turn}
use Rattle.rules.proofs.bindings.push_bindings.Goals as goal

pub loop-scope-preserved : goal.loop-scope-preserved
loop-scope-preserved c =
    let f = of_binding c.args.walk.rule c.args.walk.settings.now (is_in c.args.walk.alone.now.keys) (is_marked c.args.used.now) in
    record {
      found = scopes-turn f c.args.scopes.now.scopes c.loop-scope.scope (all_shown c.bindings.result.now) c.loop-scope.out.items c.push_scope.new.out.items _ c.bindings.ensures
          c.in_ok-push_scope.ensures.found c.loop-scope.invariant.found;
      kept = grows-on c.args.out.now.items c.loop-scope.out.items c.push_scope.new.out.items c.loop-scope.invariant.kept c.in_ok-push_scope.ensures.kept;
    }
