-- What is proved of each language.
use Rattle.std.specs.Prelude.{◌≡◌, ◌≤◌, ℕ, true, List, length}
use Rattle.tokens.specs.Reading.{any_goal}
use Rattle.tree.specs.declared.kind.Pair.{Pair}
use Rattle.tree.specs.Tree.{Tree, SameTree, bare_parts, parts_of}
use Rattle.language.specs.declared.Language.{Language}
use Rattle.language.specs.Token.{Token}
use Rattle.language.specs.Pieces.{script}
use Rattle.language.specs.Places.{NextIn}
use Rattle.language.specs.Cost.{AtMost, least}
use Rattle.language.specs.Layout.{wrapped_rows, has_number}
use Rattle.language.specs.Printed.{printed, open_in, Follows, GoesOn}
use Rattle.language.specs.Languages.{Seen, seen_in, beginning_in, DerivesIn, DerivesOpenIn}
use Rattle.row_laws.specs.Lined.{lined}
use Rattle.row_laws.specs.Laws.{NumbersRows}

-- two scripts or modules, of whatever languages, have the same items, places aside
abbrev pub SameItems : Tree → Tree → Type 0
SameItems m n = bare_parts (parts_of m) ≡ bare_parts (parts_of n)

-- A tree that some text derives costs no more pairs than any text of any language has whose tree has the same items.
abbrev pub NoFewerPairsAcross : Type 0
NoFewerPairsAcross =
    (own other : Language) (source text : List ℕ) (n m : Tree) (P Q : List Pair) → DerivesIn own source n P → SameItems m n → DerivesIn other text m Q → AtMost (least n script) (length Q)

-- where the language reads a text as the layout of a tree that some text of it derives, the text derives the same tree, with a pair for each wrapped node
abbrev pub LayoutDerivesIn : Type 0
LayoutDerivesIn =
    (language : Language) (other : List ℕ) (n : Tree) (P : List Pair) → DerivesIn language other n P → (text : List ℕ) (last : Token) (o : ℕ) →
    Follows Token (Seen Token (NextIn text any_goal) language) (seen_in language) (printed (has_number (wrapped_rows n script 1)) n script 1 0) (beginning_in language text) last →
    GoesOn Token (Seen Token (NextIn text any_goal) language) (seen_in language) last → open_in (has_number (wrapped_rows n script 1)) n script 1 ≤ o →
    (m : Tree) × (Q : List Pair) × SameTree m n × DerivesOpenIn language o text m Q × (length Q ≡ length (wrapped_rows n script 1))

-- what some text of a language derives
abbrev pub DerivedIsLinedIn : Type 0
DerivedIsLinedIn = (language : Language) (text : List ℕ) (n : Tree) (P : List Pair) → DerivesIn language text n P → lined n script ≡ true

abbrev pub DerivedNumbersRowsIn : Type 0
DerivedNumbersRowsIn = (language : Language) (text : List ℕ) (n : Tree) (P : List Pair) → DerivesIn language text n P → NumbersRows n
