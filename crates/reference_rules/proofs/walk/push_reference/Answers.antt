use Rattle.std.proofs.Common.{option_map, sym, ◌∙◌}
use Rattle.scopes.specs.Shown.{reference_shown, shown}
use Rattle.reference_rules.specs.Found.{by_reference}
use Rattle.reference_rules.proofs.Passes.{rules-turn, grown}
use Rattle.reference_rules.proofs.Silent.{nothing-said}
use Rattle.reference_rules.proofs.walk.push_reference.Goals as goal

pub returns-then-is_silent-clause-found : goal.returns-then-is_silent-clause-found
returns-then-is_silent-clause-found c =
    nothing-said c.args.pass.profile c.args.pass.rules.now (reference_shown c.args.reference) (option_map shown c.args.binding) c.args.out.now.items (sym c.is_silent.ensures ∙ c.if-is_silent.true)

pub loop-rule-preserved : goal.loop-rule-preserved
loop-rule-preserved c = record {
  found = rules-turn (by_reference c.args.pass.profile (reference_shown c.args.reference) (option_map shown c.args.binding)) c.args.pass.rules.now c.loop-rule.rule-index _ c.loop-rule.out.items c.push_by_reference.new.out.items _ c.loop-rule-test.true
      c.in_ok-push_by_reference.ensures.found c.loop-rule.invariant.found;
  kept = grown c.args.out.now.items c.loop-rule.out.items c.push_by_reference.new.out.items c.loop-rule.invariant.kept c.in_ok-push_by_reference.ensures.kept;
}
