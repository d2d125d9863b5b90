-- What is proved of plans.
use Rattle.std.specs.Prelude.{ℕ, ◌≤◌, List, length, IsSome}
use Rattle.std.specs.Str.{IsUtf8}
use Rattle.tree.specs.declared.kind.Pair.{Pair}
use Rattle.tree.specs.Tree.{Tree}
use Rattle.language.specs.Pieces.{script}
use Rattle.language.specs.RowPositions.{rows}
use Rattle.language.specs.Cost.{least}
use Rattle.language.specs.declared.Language.{Language}
use Rattle.language.specs.Languages.{DerivesIn}

-- what a text derives in a language costs some number of pairs, and has no more rows than the text has bytes
abbrev pub DerivedHasPlan : Type 0
DerivedHasPlan = (language : Language) (text : List ℕ) (n : Tree) (P : List Pair) → IsUtf8 text → DerivesIn language text n P → IsSome (least n script) × (rows n script ≤ length text)
