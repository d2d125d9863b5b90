-- What is laid out with the flags of a plan.
use Rattle.std.proofs.Common.{◌≡◌, ◌∙◌, ℕ, Bool, true, List, ap}
use Rattle.tree.specs.Tree.{Tree}
use Rattle.language.specs.Pieces.{script}
use Rattle.language.specs.Layout.{layout, fixed_text, has_number, wrapped_rows}
use Rattle.language.specs.LayoutFits.{fits}
use Rattle.language.proofs.layout.WrappedRows.{text_fits_in}
use Rattle.language.specs.declared.Language.{Language}
use Rattle.language.specs.Languages.{DerivesIn}
use Rattle.tree.specs.declared.kind.Pair.{Pair}
use Rattle.printer.specs.Fits.{wrapped_by, IsPlanned}
use Rattle.printer.specs.Texts.{IsLaid, IsFixed}

-- with the flags of a plan, a tree that some text derives in some language can be laid out, and that is its fixed text
module _ (bs : List Bool) (n : Tree) (planned : IsPlanned bs n) where
  same_rows : wrapped_by bs ≡ has_number (wrapped_rows n script 1)
  same_rows = λ i r. planned r i

  pub planned_fits : (language : Language) (text : List ℕ) (pairs : List Pair) → DerivesIn language text n pairs → fits (wrapped_by bs) n script 1 ≡ true
  planned_fits language text pairs derived = ap (λ (W : ℕ → Bool). fits W n script 1) same_rows ∙ text_fits_in language text n pairs derived

  pub planned_layout : layout (wrapped_by bs) n script 1 0 ≡ fixed_text n
  unfolding fixed_text
  planned_layout = ap (λ (W : ℕ → Bool). layout W n script 1 0) same_rows

pub fixed_of_laid : (bs : List Bool) (n : Tree) (written : List ℕ) → IsLaid bs n written → IsFixed bs n written
fixed_of_laid bs n written is_laid language text pairs derived planned = is_laid (planned_fits bs n planned language text pairs derived) ∙ planned_layout bs n planned
