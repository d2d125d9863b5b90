use Rattle.tokens.proofs.EscapeParts.{HasDigits}
use Rattle.regular_expressions.proofs.hex.hex_digits.Given as goal

abbrev pub invariant-loop : goal.invariant-loop
invariant-loop l = HasDigits l.text l.at l.end l.counter l.value
