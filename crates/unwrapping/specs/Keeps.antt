-- What unwrapping keeps of a text: its tokens but for grouping parentheses, and what stands between them.
use Rattle.std.specs.Prelude.{◌≡◌, ℕ, Bool, true, false, cond, ◌&&◌, ◌||◌, ◌==◌, List, [], ◌∷◌, ◌++◌, encode_utf8_all, IsTrue}
use Rattle.std.specs.List.{list_any}
use Rattle.source_text.specs.Lines.{is_line_terminator}
use Rattle.tokens.specs.Comments.{Separators, nothing, blank, comment}
use Rattle.tokens.specs.Lexical.{is_one_of_words}
use Rattle.tokens.specs.Tokens.{LexicalToken}
use Rattle.tree.specs.Tree.{Tree}
use Rattle.tree.specs.declared.kind.Pair.{Pair}
use Rattle.reading_laws.specs.TreeReadings.{IsTreeReading, last, more, IsReadingBehind, hashbang_line}

-- ---- what stands before a token

-- a comment (ECMA-262 11.4): its bytes, and whether a line terminator is among its characters
pub record Comment : Type 0 where
  pub bytes : List ℕ
  pub has_line_end : Bool

abbrev pub begins_with_slashes : List ℕ → Bool
begins_with_slashes [] = false
begins_with_slashes (a ∷ []) = false
begins_with_slashes (a ∷ b ∷ bytes) = a == 0x2F && b == 0x2F

-- a line ends in it or right after it
abbrev pub ends_line : Comment → Bool
ends_line c = begins_with_slashes c.bytes || c.has_line_end

abbrev pub first_ends_line : List Comment → Bool
first_ends_line [] = false
first_ends_line (c ∷ others) = ends_line c

abbrev pub last_ends_line : List Comment → Bool
last_ends_line [] = false
last_ends_line (c ∷ []) = ends_line c
last_ends_line (c ∷ d ∷ others) = last_ends_line (d ∷ others)

-- the comments among separators, in order
abbrev pub comments : {gap rest : List ℕ} → Separators gap rest → List Comment
comments nothing = []
comments (blank is others) = comments others
comments (comment body behind split is others) = record { bytes = encode_utf8_all body; has_line_end = list_any is_line_terminator body } ∷ comments others

-- a token, and what stands between it and the token before: the bytes, and the comments among them
pub record SpacedToken : Type 0 where
  pub token : LexicalToken
  pub gap : List ℕ
  pub comments : List Comment

-- all tokens of a text, up to its end
abbrev pub spaced_tokens : {n : Tree} {at : ℕ} {cs : List ℕ} {tokens : List LexicalToken} → IsTreeReading n at cs tokens → List SpacedToken
spaced_tokens (last {token = token} read ends) = record { token = token; gap = encode_utf8_all read.gap; comments = comments read.separated } ∷ []
spaced_tokens (more {token = token} read goes_on others) = record { token = token; gap = encode_utf8_all read.gap; comments = comments read.separated } ∷ spaced_tokens others

-- ---- tokens

abbrev pub is_opening : LexicalToken → Bool
is_opening token = is_one_of_words ("(" ∷ []) token.text

abbrev pub is_closing : LexicalToken → Bool
is_closing token = is_one_of_words (")" ∷ []) token.text

-- an end of a pair stands at this place
abbrev pub is_end_of : List Pair → ℕ → Bool
is_end_of pairs at = list_any (λ (pair : Pair). pair.left == at || pair.right == at) pairs

-- a parenthesis of one of these pairs
abbrev pub is_grouping : List Pair → LexicalToken → Bool
is_grouping pairs token = is_one_of_words ("(" ∷ ")" ∷ []) token.text && is_end_of pairs token.start

abbrev pub is_semicolon : LexicalToken → Bool
is_semicolon token = is_one_of_words (";" ∷ []) token.text

abbrev pub is_update : LexicalToken → Bool
is_update token = is_one_of_words ("++" ∷ "--" ∷ []) token.text

-- no line may end after it (13.10, 13.14; 15.5 of the 13th edition)
abbrev pub binds_next : LexicalToken → Bool
binds_next token = is_one_of_words ("return" ∷ "throw" ∷ "yield" ∷ []) token.text

-- a grouping parenthesis comes next, perhaps behind further such words
abbrev pub leads_to_group : List Pair → List SpacedToken → Bool
leads_to_group pairs [] = false
leads_to_group pairs (s ∷ ss) = is_grouping pairs s.token || (binds_next s.token && leads_to_group pairs ss)

abbrev pub is_closing_brace : LexicalToken → Bool
is_closing_brace token = is_one_of_words ("}" ∷ []) token.text

abbrev pub is_from : LexicalToken → Bool
is_from token = is_one_of_words ("from" ∷ []) token.text

-- grouping parentheses aside, the word `from` comes next
abbrev pub comes_from : List Pair → List SpacedToken → Bool
comes_from pairs [] = false
comes_from pairs (s ∷ ss) = cond (is_grouping pairs s.token) (comes_from pairs ss) (is_from s.token)

-- a `;` may come behind it: it is `++` or `--`, or a `}` before the word `from`, as it ends an export of names (16.2.3 of the 13th edition)
abbrev pub may_be_ended : List Pair → LexicalToken → List SpacedToken → Bool
may_be_ended pairs token ss = is_update token || (is_closing_brace token && comes_from pairs ss)

-- no line may end before it (12.4), or none ends there in the usual layout
abbrev pub binds_last : LexicalToken → Bool
binds_last token = is_one_of_words ("++" ∷ "--" ∷ ";" ∷ "," ∷ []) token.text

pub record IsSameToken (s t : SpacedToken) : Type 0 where
  pub class : s.token.class ≡ t.token.class
  pub text : s.token.text ≡ t.token.text

-- ---- two texts

-- The tokens of a text and those of its unwrapped text are the same, in order, by class and characters, each with the same comments before it.
-- Only grouping parentheses may go; only grouping parentheses may be put in, and `()`, and `;` after `++` or `--`, or after a `}` before the word
-- `from`. Where nothing goes, comes or moves between two tokens, the bytes between them stay.
--
-- A comment may move for two reasons: a line ends with it, and after `return`, `throw` and `yield` no line may end, so with the comments before
-- it it moves before that word, and before further such words right before that, if a `(` after the word goes; or a `)` before `++`, `--`, `;` or `,` goes, so with the comments after it it moves
-- after that token.
--
-- Of the tokens before these, the first flag says whether a `;` may come behind the last one that was kept, the second whether nothing has gone, come
-- or moved since; the lists have the comments since then that aren't yet accounted for, of the text and of the unwrapped text.
pub data AreKept (pairs pairs_again : List Pair) : (updated alike : Bool) → (passed passed_again : List Comment) → List SpacedToken → List SpacedToken → Type 0 where
  all : {updated alike : Bool} → AreKept pairs pairs_again updated alike [] [] [] []
  kept : {updated alike : Bool} {passed passed_again : List Comment} {s t : SpacedToken} {ss ts : List SpacedToken} →
      IsSameToken s t → (alike ≡ true → s.gap ≡ t.gap) → passed ++ s.comments ≡ passed_again ++ t.comments →
      AreKept pairs pairs_again (may_be_ended pairs t.token ss) true [] [] ss ts → AreKept pairs pairs_again updated alike passed passed_again (s ∷ ss) (t ∷ ts)
  moved_before : {updated alike : Bool} {passed passed_again moved : List Comment} {s t : SpacedToken} {ss ts : List SpacedToken} →
      IsSameToken s t → IsTrue (binds_next s.token && leads_to_group pairs ss && last_ends_line moved) → passed ++ s.comments ++ moved ≡ passed_again ++ t.comments →
      AreKept pairs pairs_again (may_be_ended pairs t.token ss) false [] moved ss ts → AreKept pairs pairs_again updated alike passed passed_again (s ∷ ss) (t ∷ ts)
  moved_after : {updated : Bool} {passed passed_again moved : List Comment} {s t : SpacedToken} {ss ts : List SpacedToken} →
      IsSameToken s t → IsTrue (binds_last s.token && first_ends_line moved) → passed ++ s.comments ≡ passed_again ++ t.comments ++ moved →
      AreKept pairs pairs_again (may_be_ended pairs t.token ss) false moved [] ss ts → AreKept pairs pairs_again updated false passed passed_again (s ∷ ss) (t ∷ ts)
  gone : {updated alike : Bool} {passed passed_again : List Comment} {s : SpacedToken} {ss ts : List SpacedToken} →
      IsTrue (is_grouping pairs s.token) → AreKept pairs pairs_again updated false (passed ++ s.comments) passed_again ss ts →
      AreKept pairs pairs_again updated alike passed passed_again (s ∷ ss) ts
  put : {updated alike : Bool} {passed passed_again : List Comment} {t : SpacedToken} {ss ts : List SpacedToken} →
      IsTrue (is_grouping pairs_again t.token) → AreKept pairs pairs_again updated false passed (passed_again ++ t.comments) ss ts →
      AreKept pairs pairs_again updated alike passed passed_again ss (t ∷ ts)
  called : {updated alike : Bool} {passed passed_again : List Comment} {t u : SpacedToken} {ss ts : List SpacedToken} →
      IsTrue (is_opening t.token && is_closing u.token) → AreKept pairs pairs_again false false passed (passed_again ++ t.comments ++ u.comments) ss ts →
      AreKept pairs pairs_again updated alike passed passed_again ss (t ∷ u ∷ ts)
  ended : {alike : Bool} {passed passed_again : List Comment} {t : SpacedToken} {ss ts : List SpacedToken} →
      IsTrue (is_semicolon t.token) → AreKept pairs pairs_again false false passed (passed_again ++ t.comments) ss ts →
      AreKept pairs pairs_again true alike passed passed_again ss (t ∷ ts)

-- A text with this tree and these grouping pairs, and its unwrapped text: its tokens are kept, what stands between them, and the line of `#!`.
abbrev pub Keeps : List ℕ → Tree → List Pair → List ℕ → Tree → List Pair → Type 0
Keeps text n pairs unwrapped again pairs_again =
    (hashbang_line n text ≡ hashbang_line again unwrapped)
    × ((before after : List LexicalToken) (reading : IsReadingBehind n text before) (reading_again : IsReadingBehind again unwrapped after) →
    AreKept pairs pairs_again false true [] [] (spaced_tokens reading) (spaced_tokens reading_again))
