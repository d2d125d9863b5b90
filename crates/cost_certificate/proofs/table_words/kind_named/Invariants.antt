use Rattle.std.proofs.Common.{◌≡◌, drop}
use Rattle.cost_certificate.specs.Types.{row_kinds, kind_among}
use Rattle.cost_certificate.proofs.table_words.kind_named.Given as goal

abbrev pub invariant-loop-kind : goal.invariant-loop-kind
invariant-loop-kind l = kind_among (drop l.kind-index row_kinds) l.word ≡ kind_among row_kinds l.word
