-- The turns of the comparison of a text with its unwrapped text.
use Rattle.std.specs.Prelude.{◌≡◌, ◌<◌, ◌+◌, ℕ, Bool, true, false, cond, ◌&&◌, ◌||◌, List, [], ◌∷◌, ◌++◌, length, IsTrue}
use Prim.Native.String.{String}
use Rattle.tokens.specs.Lexical.{is_one_of_words}
use Rattle.tokens.specs.Tokens.{size}
use Rattle.tree.specs.Tree.{Tree}
use Rattle.tree.specs.declared.kind.Pair.{Pair}
use Rattle.reading_laws.specs.TreeReadings.{hashbang_line}
use Rattle.unwrapping.specs.declared.comment.CommentRow.{CommentRow}
use Rattle.unwrapping.specs.declared.reading.TokenRow.{TokenRow}
use Rattle.unwrapping.specs.declared.keeping.Rest.{Rest}
use Rattle.unwrapping.specs.declared.keeping.Comparison.{Comparison}
use Rattle.unwrapping.specs.Keeps.{Comment, SpacedToken, AreKept, first_ends_line, last_ends_line}
use Rattle.unwrapping.specs.Readings.{bytes_in, comments_in, SaysComments, AreRows}

-- the next row has one of these words
abbrev pub next_is : List String → List ℕ → List TokenRow → Bool
next_is words text [] = false
next_is words text (row ∷ rows) = is_one_of_words words (bytes_in text row.span)

abbrev pub next_is_grouping : List TokenRow → Bool
next_is_grouping [] = false
next_is_grouping (row ∷ rows) = row.is_grouping

-- a grouping parenthesis comes next, perhaps behind words that no line may end after
abbrev pub leads_rows : List ℕ → List TokenRow → Bool
leads_rows text [] = false
leads_rows text (row ∷ rows) = row.is_grouping || (is_one_of_words ("return" ∷ "throw" ∷ "yield" ∷ []) (bytes_in text row.span) && leads_rows text rows)

-- grouping parentheses aside, the next row has the word `from`
abbrev pub from_rows : List ℕ → List TokenRow → Bool
from_rows text [] = false
from_rows text (row ∷ rows) = cond row.is_grouping (from_rows text rows) (is_one_of_words ("from" ∷ []) (bytes_in text row.span))

-- a `;` may come behind a token of these bytes, before these rows
abbrev pub may_be_ended_before : List ℕ → List ℕ → List TokenRow → Bool
may_be_ended_before bytes text rows = is_one_of_words ("++" ∷ "--" ∷ []) bytes || (is_one_of_words ("}" ∷ []) bytes && from_rows text rows)

-- the next rows have `(` and `)`
abbrev pub begins_call : List ℕ → List TokenRow → Bool
begins_call text [] = false
begins_call text (row ∷ rows) = is_one_of_words ("(" ∷ []) (bytes_in text row.span) && next_is (")" ∷ []) text rows

-- two rows have one class, and the same bytes
pub record AreSameRows (text : List ℕ) (row : TokenRow) (other : List ℕ) (other_row : TokenRow) : Type 0 where
  pub class : row.class ≡ other_row.class
  pub bytes : bytes_in text row.span ≡ bytes_in other other_row.span

-- comments are those of another text, and then others; these are left, and none of the other text
pub record Cancels (text : List ℕ) (old new : List CommentRow) (other : List ℕ) (old_other new_other : List CommentRow) : Type 0 where
  pub split : comments_in text old ≡ comments_in other old_other ++ comments_in text new
  pub none : new_other ≡ []

-- one row was passed, with the comments before it
pub record PassesRow (text : List ℕ) (old new : Rest) : Type 0 where
  pub row : TokenRow
  pub split : old.rows.now ≡ row ∷ new.rows.now
  pub at : new.at ≡ row.span.end
  pub comments : SaysComments text old.at row.span.start old.passed.items new.passed.items

-- Which comments of a token that was kept aren't found, of those before it, in the text and in the unwrapped text: none, or they moved. The flags
-- say whether the bytes of the gap stayed where they had to, and whether a comment may move over the token.
pub data Settles (stays before after : Bool) (old old_again new new_again : List Comment) (alike : Bool) : Type 0 where
  all_found : stays ≡ true → old ≡ old_again → new ≡ [] → new_again ≡ [] → alike ≡ true → Settles stays before after old old_again new new_again alike
  moved_before : before ≡ true → IsTrue (last_ends_line new_again) → old ++ new_again ≡ old_again → new ≡ [] → alike ≡ false → Settles stays before after old old_again new new_again alike
  moved_after : after ≡ true → IsTrue (first_ends_line new) → old ≡ old_again ++ new → new_again ≡ [] → alike ≡ false → Settles stays before after old old_again new new_again alike

abbrev pub BeginsWith : List TokenRow → TokenRow → Type 0
BeginsWith rows row = (others : List TokenRow) × (rows ≡ row ∷ others)

-- the rows stay, and where they begin
pub record IsSameRest (old new : Comparison) : Type 0 where
  pub rows : new.text.rows.now ≡ old.text.rows.now
  pub rows_again : new.unwrapped.rows.now ≡ old.unwrapped.rows.now
  pub at : new.text.at ≡ old.text.at
  pub at_again : new.unwrapped.at ≡ old.unwrapped.at
  pub may_end : new.may_end ≡ old.may_end

abbrev pub row_count : Comparison → ℕ
row_count left = length left.text.rows.now + length left.unwrapped.rows.now

abbrev pub IsShorter : Comparison → Comparison → Type 0
IsShorter old new = row_count new < row_count old

-- what is left of the tokens of two texts
pub record IsLeft (text : List ℕ) (pairs : List Pair) (unwrapped : List ℕ) (pairs_again : List Pair) (left : Comparison) (ss ts : List SpacedToken) : Type 0 where
  pub stop : ℕ
  pub stop_again : ℕ
  pub rows : AreRows text pairs left.text.at left.text.rows.now ss stop
  pub rows_again : AreRows unwrapped pairs_again left.unwrapped.at left.unwrapped.rows.now ts stop_again

-- what is left is kept
abbrev pub IsKept : List ℕ → List Pair → List ℕ → List Pair → Comparison → List SpacedToken → List SpacedToken → Type 0
IsKept text pairs unwrapped pairs_again left ss ts =
    AreKept pairs pairs_again left.may_end left.alike (comments_in text left.text.passed.items) (comments_in unwrapped left.unwrapped.passed.items) ss ts

-- if what is left later is kept, so is what is left now
pub record IsReduced (text : List ℕ) (pairs : List Pair) (unwrapped : List ℕ) (pairs_again : List Pair) (old new : Comparison) (ss ts : List SpacedToken) : Type 0 where
  pub here : List SpacedToken
  pub there : List SpacedToken
  pub left : IsLeft text pairs unwrapped pairs_again new here there
  pub kept : IsKept text pairs unwrapped pairs_again new here there → IsKept text pairs unwrapped pairs_again old ss ts

abbrev pub Leads : List ℕ → List ℕ → Comparison → Comparison → Type 0
Leads text unwrapped old new =
    (pairs pairs_again : List Pair) (ss ts : List SpacedToken) → IsLeft text pairs unwrapped pairs_again old ss ts → IsReduced text pairs unwrapped pairs_again old new ss ts

-- of two texts whose tokens begin at these places: the lines of `#!` before them are the same
abbrev pub BeginsAlike : List ℕ → ℕ → List ℕ → ℕ → Type 0
BeginsAlike text from unwrapped from_again = (n again : Tree) → from ≡ size (hashbang_line n text) → from_again ≡ size (hashbang_line again unwrapped) → hashbang_line n text ≡ hashbang_line again unwrapped

-- rows of the tokens of two texts, from these places on: these are kept
abbrev pub KeepsRows : ℕ → List ℕ → List TokenRow → ℕ → List ℕ → List TokenRow → Type 0
KeepsRows from text rows from_again unwrapped others =
    (pairs pairs_again : List Pair) (ss ts : List SpacedToken) (stop stop_again : ℕ) → AreRows text pairs from rows ss stop → AreRows unwrapped pairs_again from_again others ts stop_again →
    AreKept pairs pairs_again false true [] [] ss ts
