-- The turns of the comparison of a text with its formatted text.
use Rattle.std.specs.Prelude.{◌≡◌, ◌<◌, ◌+◌, ℕ, Bool, true, false, ◌||◌, List, [], ◌∷◌, length, map, slice_range}
use Rattle.tree.specs.declared.kind.Pair.{Pair}
use Rattle.unwrapping.specs.declared.reading.TokenRow.{TokenRow}
use Rattle.unwrapping.specs.Keeps.{SpacedToken}
use Rattle.unwrapping.specs.Readings.{bytes_in, comments_in, SaysComments, AreRows}
use Rattle.retaining.specs.declared.side.Side.{Side}
use Rattle.retaining.specs.declared.retaining.Comparison.{Comparison}
use Rattle.retaining.specs.Retains.{Word, Recent, Passed, ends_operand, breaks_behind, AreRetained, nothing_passed}

abbrev pub word_in : List ℕ → TokenRow → Word
word_in text row = record { class = row.class; text = bytes_in text row.span }

abbrev pub words_in : List ℕ → List TokenRow → List Word
words_in text rows = map (word_in text) rows

abbrev pub recent_in : List ℕ → Side → Recent
recent_in text side = record { last = bytes_in text side.last; second = bytes_in text side.second; third = bytes_in text side.third }

-- a line ends in or behind a comment that wasn't found yet, before a token
abbrev pub breaks_row : List ℕ → Side → TokenRow → Bool
breaks_row text side row = side.breaks || breaks_behind (comments_in text side.comments.items) (slice_range text side.at row.span.start)

-- one row was passed, with the comments before it
pub record PassesRow (text : List ℕ) (old new : Side) : Type 0 where
  pub row : TokenRow
  pub split : old.rows.now ≡ row ∷ new.rows.now
  pub at : new.at ≡ row.span.end
  pub last : new.last ≡ row.span
  pub second : new.second ≡ old.last
  pub third : new.third ≡ old.second
  pub operand : new.is_operand ≡ true → ends_operand (bytes_in text old.last) (word_in text row) ≡ true
  pub comments : SaysComments text old.at row.span.start old.comments.items new.comments.items
  pub breaks : new.breaks ≡ true → breaks_row text old row ≡ true

-- the comments were found, and all else stays
pub record IsSettled (old new : Side) : Type 0 where
  pub rows : new.rows.now ≡ old.rows.now
  pub at : new.at ≡ old.at
  pub last : new.last ≡ old.last
  pub second : new.second ≡ old.second
  pub third : new.third ≡ old.third
  pub operand : new.is_operand ≡ old.is_operand
  pub comments : new.comments.items ≡ []
  pub breaks : new.breaks ≡ false

abbrev pub BeginsWith : List TokenRow → TokenRow → Type 0
BeginsWith rows row = (others : List TokenRow) × (rows ≡ row ∷ others)

-- two rows have one class, and the same bytes
pub record AreSameRows (text : List ℕ) (row : TokenRow) (other : List ℕ) (other_row : TokenRow) : Type 0 where
  pub class : row.class ≡ other_row.class
  pub bytes : bytes_in text row.span ≡ bytes_in other other_row.span

abbrev pub row_count : Comparison → ℕ
row_count left = length left.text.rows.now + length left.formatted.rows.now

abbrev pub IsShorter : Comparison → Comparison → Type 0
IsShorter old new = row_count new < row_count old

-- what was passed of a text, as far as the program knows it
pub record IsPassed (text : List ℕ) (side : Side) (p : Passed) : Type 0 where
  pub recent : recent_in text side ≡ p.recent
  pub operand : side.is_operand ≡ true → p.is_operand ≡ true
  pub comments : comments_in text side.comments.items ≡ p.comments
  pub breaks : side.breaks ≡ true → p.breaks ≡ true

-- what is left of a text, and what was passed of it
pub record IsAt (text : List ℕ) (pairs : List Pair) (side : Side) (p : Passed) (ss : List SpacedToken) : Type 0 where
  pub stop : ℕ
  pub rows : AreRows text pairs side.at side.rows.now ss stop
  pub passed : IsPassed text side p

-- if what is left later is retained, so is what is left now
pub record IsReduced (text : List ℕ) (pairs : List Pair) (formatted : List ℕ) (pairs_again : List Pair) (new : Comparison) (p q : Passed) (ss ts : List SpacedToken) : Type 0 where
  pub here : List SpacedToken
  pub there : List SpacedToken
  pub passed : Passed
  pub passed_again : Passed
  pub left : IsAt text pairs new.text passed here
  pub left_again : IsAt formatted pairs_again new.formatted passed_again there
  pub retained : AreRetained passed passed_again here there → AreRetained p q ss ts

abbrev pub Leads : List ℕ → List ℕ → Comparison → Comparison → Type 0
Leads text formatted old new =
    (pairs pairs_again : List Pair) (p q : Passed) (ss ts : List SpacedToken) → IsAt text pairs old.text p ss → IsAt formatted pairs_again old.formatted q ts →
    IsReduced text pairs formatted pairs_again new p q ss ts

-- rows of the tokens of two texts, from these places on: these are retained
abbrev pub RetainsRows : ℕ → List ℕ → List TokenRow → ℕ → List ℕ → List TokenRow → Type 0
RetainsRows from text rows from_again formatted others =
    (pairs pairs_again : List Pair) (ss ts : List SpacedToken) (stop stop_again : ℕ) → AreRows text pairs from rows ss stop → AreRows formatted pairs_again from_again others ts stop_again →
    AreRetained nothing_passed nothing_passed ss ts
