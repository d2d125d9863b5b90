-- What the text of a tree is, with the nodes wrapped that the flags say.
use Rattle.std.specs.Prelude.{◌≡◌, ℕ, Bool, true, false, List, Option, Result, Ok, Err}
use Rattle.std.specs.Io.KnownBytes.{Appends}
use Rattle.source_text.specs.Writing.{AppendsBeginning}
use Rattle.source_text.specs.declared.fault.Fault.{Fault}
use Rattle.source_text.specs.declared.fault.Fault.TheVariants.{WriteFailed}
use Rattle.tree.specs.Tree.{Tree}
use Rattle.tree.specs.declared.kind.Pair.{Pair}
use Rattle.language.specs.Pieces.{script}
use Rattle.language.specs.Layout.{layout, fixed_text}
use Rattle.language.specs.declared.Language.{Language}
use Rattle.language.specs.Languages.{DerivesIn}
use Rattle.language.specs.LayoutFits.{fits}
use Rattle.printer.specs.Fits.{wrapped_by, IsPlanned}

-- it is the layout, where each node, with these parentheses, can be spelled where it stands
abbrev pub IsLaid : List Bool → Tree → List ℕ → Type 0
IsLaid wraps n written = fits (wrapped_by wraps) n script 1 ≡ true → written ≡ layout (wrapped_by wraps) n script 1 0

-- it is the fixed text, where some text derives the tree in some language and the flags wrap what its costs wrap
abbrev pub IsFixed : List Bool → Tree → List ℕ → Type 0
IsFixed wraps n written = (language : Language) (text : List ℕ) (pairs : List Pair) → DerivesIn language text n pairs → IsPlanned wraps n → written ≡ fixed_text n

-- the whole text was written, or a beginning of it and the writer failed
abbrev pub IsWritten : List ℕ → Result (Unit {0}) Fault → Option (List ℕ) → Option (List ℕ) → Bool → Type 0
IsWritten text (Ok u) before after failed = Appends before after text × (failed ≡ false)
IsWritten text (Err WriteFailed) before after failed = AppendsBeginning before after text × (failed ≡ true)
IsWritten text (Err other) before after failed = ⊥
