use Rattle.std.proofs.Common.{◌≡◌, ℕ, List, drop}
use Rattle.std.specs.Prelude.{◌||◌}
use Rattle.name_tables.specs.Sets.{contains}
use Rattle.repetition_rules.specs.Chains.{is_last_of}
use Rattle.repetition_rules.proofs.conditions.Condition.put_lasts.Given as goal

abbrev pub invariant-loop-choice : goal.invariant-loop-choice
invariant-loop-choice l = (w : List ℕ) → (contains l.lasts w || is_last_of (drop l.choice-index l.self) w) ≡ (contains l.fn.lasts w || is_last_of l.self w)
