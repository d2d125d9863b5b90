use Rattle.std.proofs.Common.{◌≡◌, map, string_bytes, take}
use Rattle.command_line.specs.Shown.{on_one_line}
use Rattle.command_line.proofs.mistake.words_on_one_line.Given as goal

-- the words that were passed stand on one line each
abbrev pub invariant-loop-word : goal.invariant-loop-word
invariant-loop-word l = map (λ s. string_bytes s) l.lines.items ≡ map (λ w. on_one_line w.now) (take l.word-index l.fn.words)
