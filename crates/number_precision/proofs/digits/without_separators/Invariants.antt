use Rattle.std.proofs.Common.{◌≡◌, ◌++◌, drop}
use Rattle.number_precision.specs.Digits.{without_separators}
use Rattle.number_precision.proofs.digits.without_separators.Given as goal

abbrev pub invariant-loop-character : goal.invariant-loop-character
invariant-loop-character l = l.digits.items ++ without_separators (drop l.character-index l.text) ≡ without_separators l.text
