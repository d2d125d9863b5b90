-- What unwrapping a script promises.
use Rattle.std.specs.Prelude.{◌≡◌, ◌<◌, ◌+◌, ◌*◌, ℕ, List, length, Option, Some, None, String, string_bytes}
use Rattle.std.specs.Str.{IsUtf8}
use Rattle.source_text.specs.Source.{max_bytes}
use Rattle.source_text.specs.declared.fault.Fault.{Fault}
use Rattle.source_text.specs.declared.fault.Fault.TheVariants.{TooLong, OutOfMemory, UnwrapFailed}
use Rattle.tree.specs.Tree.{Tree, SameTree}
use Rattle.tree.specs.declared.kind.Pair.{Pair}
use Rattle.language.specs.Pieces.{script}
use Rattle.language.specs.Cost.{least}
use Rattle.language.specs.declared.Language.{Language}
use Rattle.recursive_descent.specs.Limits.{WithinLimitsIn}
use Rattle.early_errors.specs.Accepted.{Accepted}
use Rattle.unwrapping.specs.Keeps.{Keeps}
use Rattle.lint.specs.ReadScripts.{FewestInAny, IsOnly, RefusesReading}

-- The text is accepted in a language with a tree, and derives no other there. So is the unwrapped text, with the same tree, places aside; no text of any
-- language that derives a tree with the same items has fewer grouping pairs. It keeps the tokens of the text but for grouping parentheses, each with the comments before it, and the
-- bytes between tokens where no parenthesis goes or comes. Where the text has no more pairs, the unwrapped text is the text itself.
pub record Unwraps (language : Language) (text unwrapped : List ℕ) : Type 0 where
  pub tree : Tree
  pub pairs : List Pair
  pub accepted : Accepted language text tree pairs
  pub only : IsOnly language text tree pairs
  pub again : Tree
  pub pairs_again : List Pair
  pub same : SameTree again tree
  pub accepted_again : Accepted language unwrapped again pairs_again
  pub only_again : IsOnly language unwrapped again pairs_again
  pub fewest : FewestInAny tree (length pairs_again)
  pub kept : Keeps text tree pairs unwrapped again pairs_again
  pub untouched : length pairs ≡ length pairs_again → unwrapped ≡ text

-- what was made of a text, or the text itself where nothing was
abbrev pub made_text : {A : Type 0} → List ℕ → Option (String A) → List ℕ
made_text text (Some made) = string_bytes made
made_text text None = text

-- unwrapping the unwrapped text gives it again
abbrev pub IsUnwrapped : Language → List ℕ → Type 0
IsUnwrapped language unwrapped = (again : List ℕ) → Unwraps language unwrapped again → again ≡ unwrapped

-- an unwrapped text of the language within the limits has the tree of a text, places aside, and so many grouping pairs, and keeps the text's tokens and what stands
-- between them
pub record SpellsWith (language : Language) (text unwrapped : List ℕ) (n : Tree) (P : List Pair) (count : ℕ) : Type 0 where
  pub again : Tree
  pub pairs : List Pair
  pub source : IsUtf8 unwrapped
  pub derived : WithinLimitsIn language unwrapped again pairs
  pub kept : Keeps text n P unwrapped again pairs
  pub same : SameTree again n
  pub counted : length pairs ≡ count

-- the script has more grouping pairs than the fewest
abbrev pub HasMorePairs : Tree → List Pair → Type 0
HasMorePairs n P = Some (length P) ≡ least n script → ⊥

-- The text is so long, and has so many grouping pairs, that the unwrapped text may be longer than a source text may be: where a pair goes, a
-- comment may move to a line of its own, with the indentation of another line before it.
abbrev pub MayOutgrow : List ℕ → List Pair → Type 0
MayOutgrow text P = max_bytes < length text * (length P + 6)

-- why no unwrapped text was made: it is too long, there is no memory, or what was made doesn't compare
abbrev pub IsUnfit : List ℕ → List Pair → Fault → Type 0
IsUnfit text P TooLong = MayOutgrow text P
IsUnfit text P UnwrapFailed = Unit {0}
IsUnfit text P OutOfMemory = Unit {0}
IsUnfit text P _ = ⊥

-- why a script isn't unwrapped
abbrev pub RefusesScript : List ℕ → Tree → List Pair → Fault → Type 0
RefusesScript text n P TooLong = HasMorePairs n P × MayOutgrow text P
RefusesScript text n P UnwrapFailed = HasMorePairs n P
RefusesScript text n P OutOfMemory = Unit {0}
RefusesScript text n P _ = ⊥

-- a script is refused, with its tree and its pairs
abbrev pub RefusesAccepted : Language → List ℕ → Fault → Type 0
RefusesAccepted language text fault = (n : Tree) × (P : List Pair) × Accepted language text n P × RefusesScript text n P fault

-- A text that is refused is no script, as when it is read. A script is refused where memory is refused; or it has more pairs than the fewest, and
-- its unwrapped text is too long, or what was made of it isn't the same script with the fewest pairs: that this never happens is tested, not
-- proved.
abbrev pub RefusesUnwrapping : Language → List ℕ → Fault → Type 0
RefusesUnwrapping language text TooLong = RefusesAccepted language text TooLong
RefusesUnwrapping language text UnwrapFailed = RefusesAccepted language text UnwrapFailed
RefusesUnwrapping language text fault = RefusesReading language text fault
