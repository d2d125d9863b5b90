use Rattle.regular_expressions.proofs.Words.{InList}
use Rattle.regular_expressions.proofs.property.lists.Given as goal

abbrev pub invariant-loop-index : goal.invariant-loop-index
invariant-loop-index l = InList l.words l.word l.index l.met
