-- A text with some of its bytes replaced.
use Rattle.std.specs.Prelude.{◌≡◌, ℕ, ◌≤◌, List, [], ◌∷◌, ◌++◌, length, drop, slice_range}
use Rattle.mending.specs.declared.splice.Edit.{Edit}

-- the text from a place on, with what edits put in place of bytes
abbrev pub spliced_from : ℕ → List ℕ → List Edit → List ℕ
spliced_from at text [] = drop at text
spliced_from at text (e ∷ es) = slice_range text at e.start ++ (e.text.now ++ spliced_from e.end text es)

-- no edit begins before the end of the one before it, and all are within the text
abbrev pub AreInOrder : ℕ → List ℕ → List Edit → Type 0
AreInOrder at text [] = at ≤ length text
AreInOrder at text (e ∷ es) = (at ≤ e.start) × (e.start ≤ e.end) × AreInOrder e.end text es

-- a text is another with these edits, none of which overlap
pub record IsSpliced (text : List ℕ) (edits : List Edit) (next : List ℕ) : Type 0 where
  pub order : AreInOrder 0 text edits
  pub bytes : next ≡ spliced_from 0 text edits
