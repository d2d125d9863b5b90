use Rattle.std.proofs.Common.{◌++◌, ap, ◌∙◌}
use Rattle.scopes.specs.Shown.{all_shown}
use Rattle.reference_rules.specs.Found.{over_scope}
use Rattle.reference_rules.proofs.Passes.{scopes-turn, grown}
use Rattle.reference_rules.proofs.walk.push_scopes.Goals as goal

pub loop-scope-preserved : goal.loop-scope-preserved
loop-scope-preserved c =
    let p = c.args.pass.profile in
    let rules = c.args.pass.rules.now in
    record {
      found = scopes-turn p rules c.args.scopes.now.scopes c.loop-scope.scope (all_shown c.bindings.result.now) (all_shown c.redeclared.result.now) c.loop-scope.out.items c.push_scope.new.out.items _ c.bindings.ensures c.redeclared.ensures
          (c.in_ok-push_scope.ensures.found ∙ ap (λ k. c.loop-scope.out.items ++ over_scope p rules k (all_shown c.bindings.result.now) (all_shown c.redeclared.result.now)) c.standing_in.ensures) c.loop-scope.invariant.found;
      kept = grown c.args.out.now.items c.loop-scope.out.items c.push_scope.new.out.items c.loop-scope.invariant.kept c.in_ok-push_scope.ensures.kept;
    }
