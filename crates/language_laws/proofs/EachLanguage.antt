-- What holds of the base profile holds of each language: the lemmas behind it are of any kind of places.
use Rattle.std.proofs.Common.{◌≡◌, ℕ, true, List, refl, ◌∙◌, is_some}
use Rattle.std.specs.Prelude.{Option}
use Rattle.tokens.specs.Reading.{any_goal}
use Rattle.tree.specs.declared.kind.Pair.{Pair}
use Rattle.tree.specs.Tree.{Tree}
use Rattle.language.specs.declared.Language.{Language}
use Rattle.language.specs.Token.{Token}
use Rattle.language.specs.Pieces.{script}
use Rattle.language.specs.Places.{NextIn}
use Rattle.language.specs.Cost.{AtMost, at_most}
use Rattle.language.specs.Layout.{wrapped_rows, has_number}
use Rattle.language.specs.Languages.{Seen, seen_in, DerivesIn}
use Rattle.language.proofs.table.Alike.{same}
use Rattle.language.proofs.table.LooserPositions.{same as looser_same}
use Rattle.language.proofs.lower_bound.LowerBound.{lower_bound}
use Rattle.language.proofs.languages.BaseTrees.{same_language}
use Rattle.language.proofs.layout.WrappedRows.{text_fits_in, wrapped_marks}
use Rattle.language.proofs.layout.PrintedSpells.{printed_spells}
use Rattle.language.proofs.layout.LayoutPairs.{counted_rows}
use Rattle.row_laws.specs.Lined.{lined}
use Rattle.row_laws.proofs.FirstWayRows.{spelled_lined}
use Rattle.language_laws.specs.Laws.{LayoutDerivesIn}

some_number : {x : Option ℕ} {k : ℕ} → AtMost x k → is_some x ≡ true
some_number (at_most h) = refl

pub derived_lined_in : (language : Language) (text : List ℕ) (n : Tree) (P : List Pair) → DerivesIn language text n P → lined n script ≡ true
derived_lined_in language text n P d =
    let S = Seen Token (NextIn text any_goal) language in
    spelled_lined Token S (seen_in language) d.1.2 script same (some_number (lower_bound Token S (seen_in language) d.1.2 script looser_same))

pub layout_derives_in : LayoutDerivesIn
layout_derives_in language other n P d text last o f g low =
    let W = has_number (wrapped_rows n script 1) in
    let x = printed_spells Token (Seen Token (NextIn text any_goal) language) (seen_in language) W n script 1 0 o (text_fits_in language other n P d) low f g in
    (x.tree, x.pairs, x.same, (same_language language x.tree n x.same d.1.0, last, x.spells), x.counted ∙ counted_rows W n script 1 (wrapped_marks n script 1))
