use Rattle.std.proofs.Common.{true}
use Rattle.early_errors.proofs.around.Context.as_word.Goals as goal

pub returns-clause-around : goal.returns-clause-around
returns-clause-around c = λ r. λ i. record (c.within.ensures.around r i) { is_word = true }
