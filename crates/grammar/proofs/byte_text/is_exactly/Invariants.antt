use Rattle.std.proofs.Common.{◌≡◌, drop}
use Rattle.std.specs.Str.{bytes_eq}
use Rattle.grammar.proofs.byte_text.is_exactly.Given as goal

abbrev pub invariant-bytes : goal.invariant-bytes
invariant-bytes l = bytes_eq l.bytes l.others ≡ bytes_eq (drop l.i l.bytes) (drop l.i l.others)
