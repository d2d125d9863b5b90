use Rattle.std.proofs.Common.{◌≡◌, drop}
use Rattle.cost_certificate.specs.Forms.{digits_value}
use Rattle.cost_certificate.proofs.table_words.value.Given as goal

abbrev pub invariant-loop-index : goal.invariant-loop-index
invariant-loop-index l = digits_value l.value (drop l.index l.word) ≡ digits_value 0 l.word
