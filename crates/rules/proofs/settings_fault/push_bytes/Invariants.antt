use Rattle.std.proofs.Common.{◌≡◌, ◌+◌, ◌++◌, drop, length, map}
use Rattle.rules.specs.Misfits.{shown_byte}
use Rattle.rules.proofs.settings_fault.push_bytes.Given as goal

abbrev pub invariant-loop-byte : goal.invariant-loop-byte
invariant-loop-byte l =
    (l.text.bytes ++ map shown_byte (drop l.byte-index l.bytes) ≡ l.fn.text.bytes ++ map shown_byte l.bytes)
    × (length l.text.bytes ≡ length l.fn.text.bytes + l.byte-index)
