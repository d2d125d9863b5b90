-- What formatting a script promises.
use Rattle.std.specs.Prelude.{◌≡◌, ◌<◌, ◌*◌, ◌⊎◌, ℕ, zero, suc, Bool, true, false, List, [], length}
use Rattle.std.specs.Str.{IsUtf8}
use Rattle.source_text.specs.Source.{max_bytes}
use Rattle.source_text.specs.declared.fault.Fault.{Fault}
use Rattle.source_text.specs.declared.fault.Fault.TheVariants.{TooLong, OutOfMemory, UnwrapFailed, FormatFailed}
use Rattle.tree.specs.Tree.{Tree, SameTree}
use Rattle.tree.specs.declared.kind.Pair.{Pair}
use Rattle.language.specs.declared.Language.{Language}
use Rattle.recursive_descent.specs.Limits.{WithinLimitsIn}
use Rattle.early_errors.specs.Accepted.{Accepted}
use Rattle.layout_items.specs.Layout.{IsLayout}
use Rattle.layout_items.specs.declared.item.Item.{Item}
use Rattle.layout_items.specs.declared.style.Style.{Style}
use Rattle.retaining.specs.Retains.{Retains}
use Rattle.commands.specs.declared.command.FormatChoice.{FormatChoice}
use Rattle.lint.specs.ReadScripts.{FewestInAny, IsOnly, RefusesReading}
use Rattle.lint.specs.Unwraps.{RefusesScript, Unwraps}

-- the text is the layout of items in a style
abbrev pub IsLaid : Style → List ℕ → Type 0
IsLaid style formatted = (items : List Item) × IsLayout style items formatted

-- The text is accepted in a language with a tree, and derives no other there. So is the formatted text, with the same tree, places aside, and
-- with as many grouping pairs. It retains the tokens and the comments of the text, and is the layout of items in the style.
pub record Formats (language : Language) (style : Style) (text formatted : List ℕ) : Type 0 where
  pub tree : Tree
  pub pairs : List Pair
  pub accepted : Accepted language text tree pairs
  pub only : IsOnly language text tree pairs
  pub again : Tree
  pub pairs_again : List Pair
  pub same : SameTree again tree
  pub accepted_again : Accepted language formatted again pairs_again
  pub only_again : IsOnly language formatted again pairs_again
  pub as_many : length pairs ≡ length pairs_again
  pub kept : Retains text tree pairs formatted again pairs_again
  pub laid : IsLaid style formatted

-- The text is unwrapped, and its unwrapped text formatted; so no text of any language that derives a tree with the same items has fewer
-- grouping pairs.
pub record FormatsFewest (language : Language) (style : Style) (text formatted : List ℕ) : Type 0 where
  pub between : List ℕ
  pub unwraps : Unwraps language text between
  pub formats : Formats language style between formatted
  pub fewest : FewestInAny unwraps.tree (length formats.pairs_again)

-- a formatted text of the language within the limits has the tree of a text, places aside, and as many grouping pairs, and retains the text's
-- tokens and comments
pub record Respells (language : Language) (text formatted : List ℕ) (n : Tree) (P : List Pair) : Type 0 where
  pub again : Tree
  pub pairs : List Pair
  pub source : IsUtf8 formatted
  pub derived : WithinLimitsIn language formatted again pairs
  pub kept : Retains text n P formatted again pairs
  pub same : SameTree again n
  pub counted : length pairs ≡ length P

-- The text is so long that its formatted text may be longer than a source text may be: each of its tokens may get a line with the indentation
-- of all that is open there.
abbrev pub MayOutgrowLines : List ℕ → Type 0
MayOutgrowLines text = max_bytes < length text * 16384

-- why no formatted text was made: it is too long, there is no memory, or what was made doesn't compare
abbrev pub IsUnlaid : List ℕ → Fault → Type 0
IsUnlaid text TooLong = MayOutgrowLines text
IsUnlaid text FormatFailed = Unit {0}
IsUnlaid text OutOfMemory = Unit {0}
IsUnlaid text _ = ⊥

-- a script is refused, with its tree and its pairs
abbrev pub RefusesLaying : Language → List ℕ → Fault → Type 0
RefusesLaying language text fault = (n : Tree) × (P : List Pair) × Accepted language text n P × IsUnlaid text fault

-- A text that is refused is no script, as when it is read. A script is refused where memory is refused, where its formatted text is too long,
-- or where what was made of it isn't the same script, or isn't formatted to itself: that this never happens is tested, not proved.
abbrev pub RefusesFormatting : Language → List ℕ → Fault → Type 0
RefusesFormatting language text TooLong = RefusesLaying language text TooLong
RefusesFormatting language text FormatFailed = RefusesLaying language text FormatFailed
RefusesFormatting language text fault = RefusesReading language text fault

-- ---- the command

-- the style that a choice asks for
abbrev pub style_of : FormatChoice → Style
style_of choice = record { width = choice.width; indent = choice.indent; tabs = choice.tabs }

-- a text is formatted, with its own pairs or with the fewest
abbrev pub FormatsWith : (fewest : Bool) → Language → Style → (text formatted : List ℕ) → Type 0
FormatsWith false language style text formatted = Formats language style text formatted
FormatsWith true language style text formatted = FormatsFewest language style text formatted

-- a text is formatted as a choice says
abbrev pub FormatsBy : FormatChoice → Language → (text formatted : List ℕ) → Type 0
FormatsBy choice language text formatted = FormatsWith choice.fewest language (style_of choice) text formatted

-- whether a text is formatted: 0 where it is its own formatted text, 1 where it isn't
abbrev pub TellsFormatted : (text formatted : List ℕ) → (status : ℕ) → Type 0
TellsFormatted text formatted zero = formatted ≡ text
TellsFormatted text formatted (suc zero) = formatted ≡ text → ⊥
TellsFormatted text formatted (suc (suc other)) = ⊥

-- the formatted text is written, or, where it is asked for, only whether the text is formatted is told
abbrev pub WritesFormatted : (check : Bool) → (text formatted output : List ℕ) → (status : ℕ) → Type 0
WritesFormatted false text formatted output status = (output ≡ formatted) × (status ≡ 0)
WritesFormatted true text formatted output status = (output ≡ []) × TellsFormatted text formatted status

-- why a script isn't formatted as a choice says: it isn't unwrapped, where it is to have the fewest pairs, or its layout is refused
abbrev pub RefusesFormat : (fewest : Bool) → List ℕ → Tree → List Pair → Fault → Type 0
RefusesFormat fewest text n P TooLong = MayOutgrowLines text ⊎ ((fewest ≡ true) × RefusesScript text n P TooLong)
RefusesFormat fewest text n P UnwrapFailed = (fewest ≡ true) × RefusesScript text n P UnwrapFailed
RefusesFormat fewest text n P FormatFailed = Unit {0}
RefusesFormat fewest text n P OutOfMemory = Unit {0}
RefusesFormat fewest text n P _ = ⊥
