use Rattle.std.proofs.Common.{◌≡◌, string_bytes, encode_utf8_all, flat_map}
use Rattle.command_line.specs.Shown.{within_line}
use Rattle.command_line.proofs.shown.text_on_one_line.Given as goal

-- what was yielded is written, each character within a line
abbrev pub invariant-loop-c : goal.invariant-loop-c
invariant-loop-c l = string_bytes l.out ≡ encode_utf8_all (flat_map within_line l.yielded)
