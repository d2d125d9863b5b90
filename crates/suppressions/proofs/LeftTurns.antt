-- Reports that are left, one by one.
use Rattle.std.proofs.Common.{◌≡◌, ℕ, Bool, List, [], ◌∷◌, map, Option, refl, ap, ◌∙◌}
use Rattle.tree.specs.Tree.{Tree}
use Rattle.rule_words.specs.Reports.{Report}
use Rattle.suppressions.specs.declared.directive.Reach.{Reach}
use Rattle.suppressions.specs.Deciding.{turned_off}
use Rattle.suppressions.specs.Left.{left_by, left_if, left_in, left_of}
use Rattle.suppressions.specs.Suppressions.{Suppression, suppressions_of}

-- what turns each report off says which are left
pub left-same : (off : Report → Option ℕ) (reports : List Report) → left_of (map off reports) reports ≡ left_by off reports
left-same off [] = refl
left-same off (report ∷ reports) = ap (left_if (off report) report) (left-same off reports)

-- the reports that are left of those of a script
pub left-after : (reach : Reach) (eslint : Bool) (text : List ℕ) (tree : Tree) (ss : List Suppression) (offs : List (Option ℕ)) (reports left : List Report) →
    ss ≡ suppressions_of reach eslint text tree → offs ≡ map (turned_off reach text ss) reports → left ≡ left_of offs reports → left ≡ left_in reach eslint text tree reports
left-after reach eslint text tree ss offs reports left s o l =
    l ∙ (ap (λ os. left_of os reports) o ∙ (left-same (turned_off reach text ss) reports ∙ ap (λ rs. left_by (turned_off reach text rs) reports) s))
