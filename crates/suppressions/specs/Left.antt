-- The reports that comments leave.
use Rattle.std.specs.Prelude.{◌≡◌, ◌<◌, length, drop, ℕ, ◌+◌, Bool, false, not, ◌&&◌, cond, nat_eq, slice_index_or, codes, map, List, [], ◌∷◌, ◌++◌, Option, Some, None}
use Rattle.std.specs.List.{list_any}
use Rattle.tree.specs.Tree.{Tree}
use Rattle.rule_words.specs.Reports.{Report, quoted}
use Rattle.suppressions.specs.declared.directive.Reach.{Reach}
use Rattle.suppressions.specs.declared.directive.Reach.TheVariants.{Line, NextLine, Region}
use Rattle.suppressions.specs.Deciding.{turned_off}
use Rattle.suppressions.specs.Suppressions.{Suppression, suppressions_of}

abbrev pub left_if : Option ℕ → Report → List Report → List Report
left_if None report reports = report ∷ reports
left_if (Some index) report reports = reports

-- those that no suppression turns off
abbrev pub left_by : (Report → Option ℕ) → List Report → List Report
left_by off [] = []
left_by off (report ∷ reports) = left_if (off report) report (left_by off reports)

abbrev pub first_off : List (Option ℕ) → Option ℕ
first_off [] = None
first_off (off ∷ offs) = off

-- the same, by what turns each off
abbrev pub left_of : List (Option ℕ) → List Report → List Report
left_of offs [] = []
left_of offs (report ∷ reports) = left_if (first_off offs) report (left_of (drop 1 offs) reports)

-- ---- suppressions that turn no report off

abbrev pub unused_rule : List ℕ
unused_rule = codes "unused-suppression"

abbrev pub said_of : Option (List ℕ) → List ℕ
said_of None = codes "there is no report to turn off"
said_of (Some name) = quoted name "has no report to turn off"

abbrev pub unused_report : Suppression → Report
unused_report s = record { start = s.start; stop = s.stop; rule = unused_rule; text = said_of s.rule }

abbrev pub is_index : ℕ → Option ℕ → Bool
is_index index None = false
is_index index (Some other) = nat_eq index other

-- a flag for each of so many suppressions: whether it is the index of a report
abbrev pub AreUsed : ℕ → List (Option ℕ) → List Bool → Type 0
AreUsed count offs used = (length used ≡ count) × ((index : ℕ) → index < count → slice_index_or used index false ≡ list_any (is_index index) offs)

abbrev pub unused_if : Bool → Suppression → List Report
unused_if is_used s = cond (s.turns_off && not is_used) (unused_report s ∷ []) []

-- of these suppressions, the first of which has this index, those that turn off and are the index of no report
abbrev pub unused_from : (index : ℕ) → List (Option ℕ) → List Suppression → List Report
unused_from index offs [] = []
unused_from index offs (s ∷ ss) = unused_if (list_any (is_index index) offs) s ++ unused_from (index + 1) offs ss

-- ---- one reach after the other: what one turns off isn't seen by the next

abbrev pub off_by : Reach → Bool → List ℕ → Tree → Report → Option ℕ
off_by reach eslint text tree = turned_off reach text (suppressions_of reach eslint text tree)

abbrev pub left_in : Reach → Bool → List ℕ → Tree → List Report → List Report
left_in reach eslint text tree reports = left_by (off_by reach eslint text tree) reports

abbrev pub unused_in : Reach → Bool → List ℕ → Tree → List Report → List Report
unused_in reach eslint text tree reports = unused_from 0 (map (off_by reach eslint text tree) reports) (suppressions_of reach eslint text tree)

abbrev pub in_regions : Bool → List ℕ → Tree → List Report → List Report
in_regions = left_in Region

abbrev pub in_lines : Bool → List ℕ → Tree → List Report → List Report
in_lines eslint text tree reports = left_in Line eslint text tree (in_regions eslint text tree reports)

abbrev pub left : Bool → List ℕ → Tree → List Report → List Report
left eslint text tree reports = left_in NextLine eslint text tree (in_lines eslint text tree reports)

abbrev pub unused : Bool → List ℕ → Tree → List Report → List Report
unused eslint text tree reports =
    unused_in Region eslint text tree reports
    ++ (unused_in Line eslint text tree (in_regions eslint text tree reports) ++ unused_in NextLine eslint text tree (in_lines eslint text tree reports))
