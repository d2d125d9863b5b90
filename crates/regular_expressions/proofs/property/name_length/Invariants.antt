use Rattle.std.proofs.Common.{take, IsTrue}
use Rattle.std.specs.List.{list_all}
use Rattle.regular_expressions.proofs.Words.{is_before}
use Rattle.regular_expressions.proofs.property.name_length.Given as goal

abbrev pub invariant-loop-index : goal.invariant-loop-index
invariant-loop-index l = IsTrue (list_all is_before (take l.index l.word))
