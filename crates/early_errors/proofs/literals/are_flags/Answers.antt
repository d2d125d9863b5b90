use Rattle.std.proofs.Common.{true, false, not, sym, ◌∙◌}
use Rattle.std.specs.Prelude.{◌&&◌}
use Rattle.early_errors.specs.Literals.{known_flags}
use Rattle.early_errors.proofs.Literally.{flags-turn}
use Rattle.early_errors.proofs.literals.are_flags.Goals as goal

pub returns-then-not-both : goal.returns-then-not-both
returns-then-not-both c =
    sym (flags-turn (known_flags c.args.is_2022) c.args.flags.now c.loop-index.index c.both.result false c.loop-index-test.true (c.both.ensures ∙ (λ j. c.is_flag.ensures j && not (c.holds.ensures j))) c.if-not-both.true) ∙ c.loop-index.invariant

pub loop-index-preserved : goal.loop-index-preserved
loop-index-preserved c =
    sym (flags-turn (known_flags c.args.is_2022) c.args.flags.now c.loop-index.index c.both.result true c.loop-index-test.true (c.both.ensures ∙ (λ j. c.is_flag.ensures j && not (c.holds.ensures j))) c.if-not-both.false) ∙ c.loop-index.invariant
