-- What is proved of the definitions.
use Rattle.std.specs.Prelude.{◌≡◌, ℕ, List, [], IsTrue, Some, None}
use Rattle.std.specs.Str.{IsUtf8}
use Rattle.source_text.specs.Source.{IsPlace}
use Rattle.tree.specs.declared.kind.Pair.{Pair}
use Rattle.tree.specs.Tree.{Tree, SameTree}
use Rattle.language.specs.declared.Language.{Language}
use Rattle.language.specs.Languages.{DerivesIn}
use Rattle.language.specs.Derivation.{Among}
use Rattle.early_errors.specs.Early.{Error, errors, comes_first, least_error}
use Rattle.early_errors.specs.Starts.{starts}

-- the error that is reported is one of the tree's, and none of the others comes before it; where none is reported there is none
pub record ReportsTheLeast (n : Tree) : Type 0 where
  pub listed : (x : Error) → least_error n ≡ Some x → Among x (errors n)
  pub first : (x y : Error) → least_error n ≡ Some x → Among y (errors n) → IsTrue (comes_first x y)
  pub silent : least_error n ≡ None → errors n ≡ []

abbrev pub EachReportsTheLeast : Type 0
EachReportsTheLeast = (n : Tree) → ReportsTheLeast n

-- a tree without early errors has none at other places either
abbrev pub PlacesMakeNoError : Type 0
PlacesMakeNoError = (a b : Tree) → SameTree a b → errors a ≡ [] → errors b ≡ []

-- an early error stands where a node of the tree starts
abbrev pub ErrorsAreAtNodes : Type 0
ErrorsAreAtNodes = (n : Tree) (x : Error) → Among x (errors n) → Among x.1 (starts n)

-- each node of a tree that a text derives in a language starts at a place of the text
abbrev pub NodesStartAtPlaces : Type 0
NodesStartAtPlaces = (language : Language) (text : List ℕ) (n : Tree) (P : List Pair) → IsUtf8 text → DerivesIn language text n P → (at : ℕ) → Among at (starts n) → IsPlace text at

-- so each early error of such a tree is at one
abbrev pub ErrorsAreAtPlaces : Type 0
ErrorsAreAtPlaces = (language : Language) (text : List ℕ) (n : Tree) (P : List Pair) → IsUtf8 text → DerivesIn language text n P → (x : Error) → Among x (errors n) → IsPlace text x.1
