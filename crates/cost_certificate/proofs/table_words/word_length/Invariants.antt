use Rattle.std.proofs.Common.{◌≡◌, true, take}
use Rattle.cost_certificate.proofs.LinesAndWords.{lacks_byte}
use Rattle.cost_certificate.proofs.table_words.word_length.Given as goal

abbrev pub invariant-loop-index : goal.invariant-loop-index
invariant-loop-index l = lacks_byte 32 (take l.index l.text) ≡ true
