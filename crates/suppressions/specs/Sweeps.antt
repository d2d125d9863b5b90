-- How far suppressions were passed.
use Rattle.std.specs.Prelude.{◌≡◌, ◌≤◌, ℕ, List, drop, Option}
use Rattle.name_tables.specs.Tables.{value_at}
use Rattle.suppressions.specs.declared.decision.Decision.{Decision}
use Rattle.suppressions.specs.declared.sweep.Sweep.{Sweep}
use Rattle.suppressions.specs.Directives.{or_else}
use Rattle.suppressions.specs.Deciding.{decided, decided_from}
use Rattle.suppressions.specs.Suppressions.{Suppression}

-- what those that were passed decide about a rule
abbrev pub state : Sweep → List ℕ → Option Decision
state sweep rule = or_else (value_at sweep.named rule) sweep.others

-- what is decided from where the sweep is on, at or behind what it reached, is what all suppressions decide
abbrev pub IsSwept : List Suppression → Sweep → Type 0
IsSwept ss sweep = (rule : List ℕ) (key : ℕ) → sweep.reached ≤ key → decided rule key ss ≡ decided_from sweep.passed (state sweep rule) rule key (drop sweep.passed ss)
