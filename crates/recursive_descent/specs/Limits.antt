-- What is within the limits, in each language.
use Rattle.std.specs.Prelude.{◌≤◌, ℕ, List}
use Rattle.tree.specs.declared.kind.Pair.{Pair}
use Rattle.tree.specs.Tree.{Tree, height}
use Rattle.language.specs.declared.Language.{Language}
use Rattle.language.specs.Claims.{max_height, max_open}
use Rattle.language.specs.Languages.{DerivesOpenIn}

-- the text derives the tree in the language, within the limits
abbrev pub WithinLimitsIn : Language → List ℕ → Tree → List Pair → Type 0
WithinLimitsIn language text tree P = (height tree ≤ max_height) × DerivesOpenIn language max_open text tree P
