use Rattle.std.proofs.Common.{◌≡◌, ℕ, [], ◌∷◌, replicate, Ok}
use Rattle.layout_items.specs.Written.{Appended}
use Rattle.layout_items.proofs.output.Output.append_blanks.Given as goal

abbrev pub invariant-loop : goal.invariant-loop
invariant-loop l = (b : ℕ) → l.fn.blank ≡ b ∷ [] → Appended (Ok tt) l.initial.self l.self (replicate l.counter b)
