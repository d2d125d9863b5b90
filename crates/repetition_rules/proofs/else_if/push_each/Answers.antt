use Rattle.std.proofs.Common.{ap, ◌∙◌}
use Rattle.std.specs.Prelude.{◌||◌}
use Rattle.name_tables.specs.Sets.{contains}
use Rattle.repetition_rules.specs.Chains.{is_last_of}
use Rattle.repetition_rules.proofs.Chaining.{full-before, knows-turn, reports-turn}
use Rattle.repetition_rules.proofs.Passes.{grown}
use Rattle.repetition_rules.proofs.else_if.push_each.Goals as goal

pub is_moot-moot-requires-clause-full : goal.is_moot-moot-requires-clause-full
is_moot-moot-requires-clause-full c = full-before c.args.tests.now c.loop-index.index c.requires.full

pub loop-index-preserved : goal.loop-index-preserved
loop-index-preserved c =
    let x = c.index-tests-index.result in
    record {
      knows = knows-turn c.args.tests.now c.loop-index.index x x c.loop-index-test.true c.index-tests-index.is c.loop-index.lasts c.put_lasts.new.lasts
          (λ w. c.in_ok-put_lasts.ensures w ∙ ap (λ t. contains c.loop-index.lasts w || is_last_of t.whole w) c.test.view_is) c.loop-index.invariant.knows;
      found = reports-turn c.args.tests.now c.loop-index.index x x c.loop-index-test.true c.index-tests-index.is c.args.rule c.loop-index.out.items c.push_moot.new.out.items _ c.is_moot-moot.result
          c.is_moot-moot.ensures c.in_ok-push_moot.ensures.found c.loop-index.invariant.found;
      kept = grown c.args.out.now.items c.loop-index.out.items c.push_moot.new.out.items c.loop-index.invariant.kept c.in_ok-push_moot.ensures.kept;
    }
