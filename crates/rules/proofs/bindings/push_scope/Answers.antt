use Rattle.std.proofs.Common.{◌+◌, ◌≤◌, length, drop, suc, sym, ap, ◌∙◌, add-one, arith}
use Rattle.scopes.specs.Shown.{all_shown}
use Rattle.rules.specs.Rules.{reads_param}
use Rattle.rules.specs.Used.{is_in, is_marked, of_binding}
use Rattle.node_rules.proofs.WalkLemmas.{grows-on}
use Rattle.rules.proofs.AppendLoops.{bindings-turn}
use Rattle.rules.proofs.bindings.push_scope.Goals as goal

pub loop-index-preserved : goal.loop-index-preserved
loop-index-preserved c =
    let used = is_marked c.args.used.now in
    let f = of_binding c.args.walk.rule c.args.walk.settings.now (is_in c.args.walk.alone.now.keys) used in
    let i = c.loop-index.index in
    let xs = c.args.bindings.now in
    let within : i + 1 ≤ length xs = omega (arith, c.loop-index-test.true) in
    record {
      found = bindings-turn f c.args.scope xs i _ c.loop-index.out.items c.push_binding.new.out.items _ c.loop-index-test.true
          (c.in_ok-push_binding.ensures.found used (c.args.scope, i) (all_shown (drop (suc i) xs)) (sym c.contains-is_used.ensures)
          (λ looks. ap (λ k. reads_param used c.args.scope (i + 1) (all_shown (drop k xs))) (sym (add-one i)) ∙ c.behind_params-behind.ensures looks (i + 1) within))
          c.loop-index.invariant.found;
      kept = grows-on c.args.out.now.items c.loop-index.out.items c.push_binding.new.out.items c.loop-index.invariant.kept c.in_ok-push_binding.ensures.kept;
    }
