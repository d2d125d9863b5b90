use Rattle.scopes.specs.Shown.{shown}
use Rattle.reference_rules.specs.Found.{by_declaration}
use Rattle.reference_rules.proofs.Passes.{rules-turn, grown}
use Rattle.reference_rules.proofs.walk.push_declaration.Goals as goal

pub loop-rule-preserved : goal.loop-rule-preserved
loop-rule-preserved c = record {
  found = rules-turn (by_declaration c.args.pass.profile c.args.standing (shown c.args.binding)) c.args.pass.rules.now c.loop-rule.rule-index _ c.loop-rule.out.items c.push_by_declaration.new.out.items _ c.loop-rule-test.true
      c.in_ok-push_by_declaration.ensures.found c.loop-rule.invariant.found;
  kept = grown c.args.out.now.items c.loop-rule.out.items c.push_by_declaration.new.out.items c.loop-rule.invariant.kept c.in_ok-push_by_declaration.ensures.kept;
}
