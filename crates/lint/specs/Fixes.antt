-- What fixing a script promises.
use Rattle.std.specs.Prelude.{◌≡◌, ℕ, List, length}
use Rattle.tree.specs.Tree.{Tree, SameTree}
use Rattle.tree.specs.declared.kind.Pair.{Pair}
use Rattle.language.specs.declared.Language.{Language}
use Rattle.language.specs.Languages.{DerivesIn}
use Rattle.language.specs.Layout.{fixed_text}
use Rattle.early_errors.specs.Accepted.{Accepted}
use Rattle.lint.specs.ReadScripts.{FewestInAny, IsOnly}

-- The text is accepted in a language with a tree whose fixed text this is, and derives no other there. The fixed text is accepted there with the same tree,
-- places aside; no text of any language that derives a tree with the same items has fewer grouping pairs; the fixed text derives no other tree either, and whatever it derives
-- has the same fixed text.
pub record Fixes (language : Language) (text fixed : List ℕ) : Type 0 where
  pub tree : Tree
  pub pairs : List Pair
  pub accepted : Accepted language text tree pairs
  pub only : IsOnly language text tree pairs
  pub is_fixed : fixed ≡ fixed_text tree
  pub again : Tree
  pub pairs_again : List Pair
  pub same : SameTree again tree
  pub accepted_again : Accepted language fixed again pairs_again
  pub only_again : IsOnly language fixed again pairs_again
  pub fewest : FewestInAny tree (length pairs_again)
  pub stable : (m : Tree) (Q : List Pair) → DerivesIn language fixed m Q → fixed_text m ≡ fixed

-- each text that is accepted with this tree is fixed so
abbrev pub FixesEach : Language → Tree → List Pair → List ℕ → Type 0
FixesEach language n P fixed = (text : List ℕ) → Accepted language text n P → Fixes language text fixed

-- fixing the fixed text gives it again
abbrev pub IsStable : Language → List ℕ → Type 0
IsStable language fixed = (again : List ℕ) → Fixes language fixed again → again ≡ fixed
