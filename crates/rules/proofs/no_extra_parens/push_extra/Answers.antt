use Rattle.std.proofs.Common.{map, refl, [], ◌∷◌}
use Rattle.rules.specs.Rules.{of_extra}
use Rattle.node_rules.proofs.WalkLemmas.{grows-on}
use Rattle.rules.proofs.AppendLoops.{append-turn}
use Rattle.rules.proofs.no_extra_parens.push_extra.Goals as goal

pub loop-span-preserved : goal.loop-span-preserved
loop-span-preserved c = record {
  found = append-turn (map of_extra) (λ p. of_extra p ∷ []) (λ x xs. refl) c.args.extra.now c.loop-span.span-index _ c.loop-span.out.items c.push_fixed_report.new.out.items _ c.loop-span-test.true c.in_ok-push_fixed_report.ensures.found c.loop-span.invariant.found;
  kept = grows-on c.args.out.now.items c.loop-span.out.items c.push_fixed_report.new.out.items c.loop-span.invariant.kept c.in_ok-push_fixed_report.ensures.kept;
}
