-- Which suppression decides about a report: of those in front that begin at or before it, the last that is about its rule.
use Rattle.std.specs.Prelude.{ℕ, ◌+◌, Bool, true, ◌&&◌, cond, nat_eq, nat_le, List, [], ◌∷◌, Option, Some, None}
use Rattle.std.specs.Str.{bytes_eq}
use Rattle.rule_words.specs.Reports.{Report}
use Rattle.suppressions.specs.declared.directive.Reach.{Reach}
use Rattle.suppressions.specs.declared.directive.Reach.TheVariants.{Line, NextLine, Region}
use Rattle.suppressions.specs.declared.decision.Decision.{Decision}
use Rattle.suppressions.specs.Lines.{line_of}
use Rattle.suppressions.specs.Suppressions.{Suppression}

abbrev pub is_named : Option (List ℕ) → List ℕ → Bool
is_named None rule = true
is_named (Some name) rule = bytes_eq name rule

-- the suppression at a place of a list
abbrev pub decision : ℕ → Suppression → Decision
decision index s = record { index = index; from = s.from; turns_off = s.turns_off }

abbrev pub decided_from : (index : ℕ) → Option Decision → (rule : List ℕ) → (key : ℕ) → List Suppression → Option Decision
decided_from index so_far rule key [] = so_far
decided_from index so_far rule key (s ∷ ss) =
    cond (nat_le s.from key) (decided_from (index + 1) (cond (is_named s.rule rule) (Some (decision index s)) so_far) rule key ss) so_far

-- what decides about reports of a rule at an offset, or in a line
abbrev pub decided : (rule : List ℕ) → (key : ℕ) → List Suppression → Option Decision
decided = decided_from 0 None

-- where a report stands: for regions its offset, for lines the number of its line
abbrev pub key_of : Reach → List ℕ → Report → ℕ
key_of Region text report = report.start
key_of Line text report = line_of text report.start
key_of NextLine text report = line_of text report.start

-- a region goes on; a line is left
abbrev pub is_there : Reach → (from key : ℕ) → Bool
is_there Region from key = true
is_there Line from key = nat_eq from key
is_there NextLine from key = nat_eq from key

abbrev pub index_if_off : Reach → ℕ → Option Decision → Option ℕ
index_if_off reach key None = None
index_if_off reach key (Some d) = cond (d.turns_off && is_there reach d.from key) (Some d.index) None

-- which suppression turns the report off, if one does
abbrev pub turned_off : Reach → List ℕ → List Suppression → Report → Option ℕ
turned_off reach text ss report = index_if_off reach (key_of reach text report) (decided report.rule (key_of reach text report) ss)
