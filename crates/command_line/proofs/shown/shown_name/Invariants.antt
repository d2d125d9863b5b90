use Rattle.std.proofs.Common.{◌≡◌, encode_utf8_all, false, flat_map}
use Rattle.command_line.specs.Shown.{shown}
use Rattle.command_line.proofs.shown.shown_name.Given as goal

-- what was yielded is there, each character as it is shown
abbrev pub invariant-loop-c : goal.invariant-loop-c
invariant-loop-c l = l.bytes.items ≡ encode_utf8_all (flat_map (shown false) l.yielded)
