-- The program's own rows for the tokens and comments of a text, and its notes of the places where the tree decides how a token is read.
use Rattle.std.specs.Prelude.{◌≡◌, ℕ, ◌≤◌, Bool, true, false, ◌&&◌, ◌==◌, ◌+◌, nat_le, List, [], ◌∷◌, ◌++◌, map, slice_range, IsTrue}
use Rattle.std.specs.List.{list_any}
use Rattle.tokens.specs.Comments.{Separators}
use Rattle.tokens.specs.declared.token.Goal.{Goal}
use Rattle.tokens.specs.declared.token.Goal.TheVariants.{Div, RegExp, TemplateTail}
use Rattle.tokens.specs.Reading.{behind}
use Rattle.tokens.specs.Scanned.{Passed}
use Rattle.tokens.specs.Tokens.{LexicalToken, size}
use Rattle.tree.specs.Tree.{Tree}
use Rattle.tree.specs.declared.kind.Pair.{Pair}
use Rattle.reading_laws.specs.TreeReadings.{is_regexp_at, is_element_after, hashbang_line, IsReadingBehind}
use Rattle.unwrapping.specs.declared.note.Reading.{Reading}
use Rattle.unwrapping.specs.declared.note.Reading.TheVariants.{RegularExpression, TemplatePart, Postfix, ExportEnd}
use Rattle.unwrapping.specs.declared.note.Note.{Note}
use Rattle.unwrapping.specs.declared.comment.CommentRow.{CommentRow}
use Rattle.unwrapping.specs.declared.reading.ByteSpan.{ByteSpan}
use Rattle.unwrapping.specs.declared.reading.TokenRow.{TokenRow}
use Rattle.unwrapping.specs.declared.reading.TreeReading.{TreeReading}
use Rattle.unwrapping.specs.Keeps.{Comment, comments, SpacedToken, spaced_tokens, is_grouping}

-- the bytes of a text in a span
abbrev pub bytes_in : List ℕ → ByteSpan → List ℕ
bytes_in text span = slice_range text span.start span.end

-- the comment of a row
abbrev pub comment_in : List ℕ → CommentRow → Comment
comment_in text row = record { bytes = bytes_in text row.span; has_line_end = row.has_line_end }

abbrev pub comments_in : List ℕ → List CommentRow → List Comment
comments_in text rows = map (comment_in text) rows

-- whatever separators stand between two places, their comments are those that were added
abbrev pub SaysComments : List ℕ → ℕ → ℕ → List CommentRow → List CommentRow → Type 0
SaysComments text at stop old new =
    (gap : List ℕ) → Passed text at stop gap → (separated : Separators gap (behind text stop)) → comments_in text new ≡ comments_in text old ++ comments separated

-- a row has a token of a text, and what stands before it, from a place on
pub record IsRow (text : List ℕ) (pairs : List Pair) (at : ℕ) (row : TokenRow) (s : SpacedToken) : Type 0 where
  pub class : row.class ≡ s.token.class
  pub bytes : s.token.text ≡ bytes_in text row.span
  pub grouping : row.is_grouping ≡ true → IsTrue (is_grouping pairs s.token)
  pub gap : s.gap ≡ slice_range text at row.span.start
  pub comments : (old new : List CommentRow) → SaysComments text at row.span.start old new → comments_in text new ≡ comments_in text old ++ s.comments

-- rows have the tokens from a place on, one each, up to another
pub data AreRows (text : List ℕ) (pairs : List Pair) : ℕ → List TokenRow → List SpacedToken → ℕ → Type 0 where
  none : {at : ℕ} → AreRows text pairs at [] [] at
  one : {at stop : ℕ} {row : TokenRow} {rows : List TokenRow} {s : SpacedToken} {ss : List SpacedToken} → IsRow text pairs at row s → AreRows text pairs row.span.end rows ss stop →
      AreRows text pairs at (row ∷ rows) (s ∷ ss) stop

-- what was read of a text is the reading of a tree
pub record IsRead (text : List ℕ) (n : Tree) (pairs : List Pair) (read : TreeReading) : Type 0 where
  pub tokens : List LexicalToken
  pub reading : IsReadingBehind n text tokens
  pub start : read.start ≡ size (hashbang_line n text)
  pub stop : ℕ
  pub rows : AreRows text pairs read.start read.tokens.items (spaced_tokens reading) stop

abbrev pub is_regexp : Reading → Bool
is_regexp RegularExpression = true
is_regexp TemplatePart = false
is_regexp Postfix = false
is_regexp ExportEnd = false

abbrev pub is_part : Reading → Bool
is_part RegularExpression = false
is_part TemplatePart = true
is_part Postfix = false
is_part ExportEnd = false

-- the note of a regular expression at a place
abbrev pub is_regexp_note : ℕ → Note → Bool
is_regexp_note at note = at == note.at && is_regexp note.reading

-- the note of a part of a template at a place
abbrev pub is_part_note : ℕ → Note → Bool
is_part_note at note = at == note.at && is_part note.reading

-- the places of notes ascend, from a place on
abbrev pub ascend : ℕ → List Note → Bool
ascend low [] = true
ascend low (note ∷ notes) = nat_le low note.at && ascend (note.at + 1) notes

-- the notes are of places that ascend
abbrev pub InOrder : List Note → Type 0
InOrder notes = (low : ℕ) × IsTrue (ascend low notes)

-- the goal by which a noted token is read
abbrev pub goal_of : Reading → Goal
goal_of RegularExpression = RegExp
goal_of TemplatePart = TemplateTail
goal_of Postfix = Div
goal_of ExportEnd = Div

-- some nodes have regular expressions and elements of templates at just the places that the notes say
pub record AreNoted (nodes : List Tree) (low : ℕ) (notes : List Note) : Type 0 where
  pub regexps : (at : ℕ) → low ≤ at → list_any (is_regexp_at at) nodes ≡ list_any (is_regexp_note at) notes
  pub elements : (at : ℕ) → low ≤ at → list_any (is_element_after at) nodes ≡ list_any (is_part_note at) notes
