-- Where in a text is what a rule looks for, byte by byte.
use Rattle.std.specs.Prelude.{ℕ, ◌+◌, Bool, cond, List, [], ◌∷◌, ◌++◌, Option, Some, None}
use Rattle.rule_words.specs.Reports.{Report}
use Rattle.literal_rules.specs.declared.literal_rule.LiteralRule.{LiteralRule}
use Rattle.literal_rules.specs.declared.text_state.TextState.{TextState}
use Rattle.literal_rules.specs.Rows.{called, is_marked, says}
use Rattle.literal_rules.specs.TextStates.{next_state}

-- what a rule reports from one place to another
abbrev pub reported : LiteralRule → (start stop : ℕ) → List Report
reported rule start stop = record { start = start; stop = stop; rule = called rule; text = says rule } ∷ []

-- the byte at a place, if there is something
abbrev pub report_if : Bool → LiteralRule → ℕ → List Report
report_if here rule at = cond here (reported rule at (at + 1)) []

-- the first place, if there is one; the text that is left starts at `at`
abbrev pub first_mark : LiteralRule → TextState → (at : ℕ) → List ℕ → Option ℕ
first_mark rule state at [] = None
first_mark rule state at (c ∷ cs) = cond (is_marked rule state (c ∷ cs)) (Some at) (first_mark rule (next_state state c) (at + 1) cs)

-- a report of each place
abbrev pub each_mark : LiteralRule → TextState → (at : ℕ) → List ℕ → List Report
each_mark rule state at [] = []
each_mark rule state at (c ∷ cs) = report_if (is_marked rule state (c ∷ cs)) rule at ++ each_mark rule (next_state state c) (at + 1) cs
