use Rattle.reference_rules.proofs.Passes.{references-turn, grown}
use Rattle.reference_rules.proofs.walk.push_references.Goals as goal

pub loop-reference-preserved : goal.loop-reference-preserved
loop-reference-preserved c = record {
  found = references-turn c.args.pass.profile c.args.pass.rules.now c.args.scopes.now.scopes c.args.references.now c.loop-reference.reference-index _ _ c.loop-reference.out.items c.push_reference.new.out.items _ c.loop-reference-test.true
      c.in_ok-push_reference.ensures.found c.binding_of.ensures c.loop-reference.invariant.found;
  kept = grown c.args.out.now.items c.loop-reference.out.items c.push_reference.new.out.items c.loop-reference.invariant.kept c.in_ok-push_reference.ensures.kept;
}
