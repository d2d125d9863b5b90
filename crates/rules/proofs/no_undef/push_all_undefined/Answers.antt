use Rattle.std.proofs.Common.{map, refl}
use Rattle.scopes.specs.Shown.{reference_shown}
use Rattle.rules.specs.Rules.{each_undefined, of_undefined}
use Rattle.node_rules.proofs.WalkLemmas.{grows-on}
use Rattle.rules.proofs.AppendLoops.{append-turn}
use Rattle.rules.proofs.no_undef.push_all_undefined.Goals as goal

pub loop-reference-preserved : goal.loop-reference-preserved
loop-reference-preserved c = record {
  found = append-turn (λ rs. each_undefined c.args.known.is_2022 c.args.known.settings.now (map reference_shown rs)) (λ r. of_undefined c.args.known.is_2022 c.args.known.settings.now (reference_shown r)) (λ x xs. refl) c.args.references.now c.loop-reference.reference-index _ c.loop-reference.out.items c.push_undefined.new.out.items _ c.loop-reference-test.true
      c.in_ok-push_undefined.ensures.found c.loop-reference.invariant.found;
  kept = grows-on c.args.out.now.items c.loop-reference.out.items c.push_undefined.new.out.items c.loop-reference.invariant.kept c.in_ok-push_undefined.ensures.kept;
}
