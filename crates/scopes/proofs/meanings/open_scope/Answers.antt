use Rattle.std.proofs.Common.{◌∙◌}
use Rattle.scopes.specs.Shown.{all_shown}
use Rattle.scopes.proofs.Nearest.{collected-turn, redeclared-turn, redeclared-end}
use Rattle.scopes.proofs.meanings.open_scope.Goals as goal

pub loop-name-preserved : goal.loop-name-preserved
loop-name-preserved c = record {
  redeclared = λ fs m b. redeclared-turn fs c.args.names.now c.loop-name.name-index _ (all_shown c.loop-name.bindings.items) (all_shown c.declare.new.bindings.items) (all_shown c.loop-name.redeclared.items) (all_shown c.declare.new.redeclared.items) _ c.loop-name-test.true
      (c.in_ok-declare.ensures.bindings fs (c.loop-name.invariant.meanings fs m b) b) (c.in_ok-declare.ensures.redeclared fs (c.loop-name.invariant.meanings fs m b) b) (c.loop-name.invariant.redeclared fs m b);
  bindings = λ fs m b. collected-turn fs c.args.names.now c.loop-name.name-index _ (all_shown c.loop-name.bindings.items) (all_shown c.declare.new.bindings.items) _ c.loop-name-test.true
      (c.in_ok-declare.ensures.bindings fs (c.loop-name.invariant.meanings fs m b) b) (c.loop-name.invariant.bindings fs m b);
  meanings = λ fs m b. c.in_ok-declare.ensures.meanings fs (c.loop-name.invariant.meanings fs m b) b;
  kept = λ w. c.in_ok-declare.ensures.kept w ∙ c.loop-name.invariant.kept w;
}
