-- The reports of a script that are told.
use Rattle.std.specs.Prelude.{ℕ, Bool, true, false, ◌&&◌, ◌||◌, cond, codes, List, [], ◌∷◌, ◌++◌}
use Rattle.memchr.specs.Find.{matches}
use Rattle.tree.specs.Tree.{Tree}
use Rattle.rule_words.specs.Reports.{Report}
use Rattle.suppressions.specs.declared.terms.Terms.{Terms}
use Rattle.suppressions.specs.Left.{left, unused}

abbrev pub is_some_place : List ℕ → Bool
is_some_place [] = false
is_some_place (at ∷ places) = true

-- the text has the beginning of a directive, in a comment or elsewhere: without it no report is turned off
abbrev pub mentions : Terms → List ℕ → Bool
mentions terms text =
    is_some_place (matches text (codes "jslint-disable") 0) || (terms.takes_eslint && is_some_place (matches text (codes "eslint-disable") 0))

abbrev pub told_unused : Terms → List ℕ → Tree → List Report → List Report
told_unused terms text tree reports = cond terms.tells_unused (unused terms.takes_eslint text tree reports) []

-- of these reports of a script those that comments leave, and one more for each suppression that turns none off
abbrev pub told : Terms → List ℕ → Tree → List Report → List Report
told terms text tree reports = cond (mentions terms text) (left terms.takes_eslint text tree reports ++ told_unused terms text tree reports) reports
