use Rattle.std.proofs.Common.{cond, sym, ap, ◌∙◌}
use Rattle.early_errors.specs.Around.{as_word, within}
use Rattle.early_errors.specs.Owns.{round}
use Rattle.early_errors.proofs.around.Context.key_of.Goals as goal

pub returns-then-computed-clause-around : goal.returns-then-computed-clause-around
returns-then-computed-clause-around c = λ r. c.within.ensures.around r ∙ ap (λ b. cond b (within (round c.args.self r)) (as_word (round c.args.self r))) (sym c.if-computed.true)

pub returns-else-computed-clause-around : goal.returns-else-computed-clause-around
returns-else-computed-clause-around c = λ r. c.as_word.ensures.around r ∙ ap (λ b. cond b (within (round c.args.self r)) (as_word (round c.args.self r))) (sym c.if-computed.false)
