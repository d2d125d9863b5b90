use Rattle.std.proofs.Common.{◌≡◌, flat_map, take}
use Rattle.command_line.specs.Shown.{shown_byte}
use Rattle.command_line.proofs.shown.shown_bytes.Given as goal

-- the bytes so far, each as it is shown
abbrev pub invariant-loop-byte : goal.invariant-loop-byte
invariant-loop-byte l = l.bytes.items ≡ flat_map shown_byte (take l.byte-index l.name)
