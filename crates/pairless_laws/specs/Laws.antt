-- What is proved of nodes without pairs.
use Rattle.std.specs.Prelude.{◌≡◌, ℕ, List, Some}
use Rattle.tree.specs.declared.kind.Pair.{Pair}
use Rattle.tree.specs.Tree.{Tree, parts_of}
use Rattle.language.specs.Pieces.{Role, script}
use Rattle.language.specs.Grammar.{ways}
use Rattle.language.specs.RowPositions.{first_roles}
use Rattle.language.specs.Cost.{least, parts_least, cell_position}
use Rattle.language.specs.declared.Language.{Language}
use Rattle.language.specs.Claims.{Derives}
use Rattle.language.specs.Languages.{DerivesIn}
use Rattle.pairless_laws.specs.Pairless.{PairlessAreFree, PairlessSpansAreFree}

-- in a script that some text derives, each node costs no pair if none opens from the place where its text may begin up to its end
abbrev pub PairlessCostNothing : Type 0
PairlessCostNothing = (text : List ℕ) (n : Tree) (P : List Pair) → Derives text n P → PairlessAreFree P 0 n script

-- and in each language
abbrev pub PairlessCostNothingIn : Type 0
PairlessCostNothingIn = (language : Language) (text : List ℕ) (n : Tree) (P : List Pair) → DerivesIn language text n P → PairlessAreFree P 0 n script

-- and at its widest position if none opens in its span
abbrev pub PairlessSpansCostNothing : Type 0
PairlessSpansCostNothing = (text : List ℕ) (n : Tree) (P : List Pair) → Derives text n P → PairlessSpansAreFree P n script

-- and in each language
abbrev pub PairlessSpansCostNothingIn : Type 0
PairlessSpansCostNothingIn = (language : Language) (text : List ℕ) (n : Tree) (P : List Pair) → DerivesIn language text n P → PairlessSpansAreFree P n script

-- what costs no pair has parts that cost none, each at its own position
abbrev pub FreePartsAreFree : Type 0
FreePartsAreFree = (n : Tree) (a : Role) → least n a ≡ Some 0 → parts_least (parts_of n) (first_roles (ways (cell_position a) n)) ≡ Some 0
