use Rattle.scopes.specs.Shown.{shown}
use Rattle.reference_rules.specs.Found.{by_declaration, each}
use Rattle.reference_rules.proofs.Passes.{each-turn, grown}
use Rattle.reference_rules.proofs.walk.push_declarations.Goals as goal

pub loop-binding-preserved : goal.loop-binding-preserved
loop-binding-preserved c = record {
  found = each-turn (λ b. each (by_declaration c.args.pass.profile c.args.standing b) c.args.pass.rules.now) shown c.args.bindings.now c.loop-binding.binding-index _ c.loop-binding.out.items c.push_declaration.new.out.items _ c.loop-binding-test.true
      c.in_ok-push_declaration.ensures.found c.loop-binding.invariant.found;
  kept = grown c.args.out.now.items c.loop-binding.out.items c.push_declaration.new.out.items c.loop-binding.invariant.kept c.in_ok-push_declaration.ensures.kept;
}
