-- All comments of a text, as they are found token after token.
use Rattle.std.proofs.Common.{◌≡◌, ◌+◌, ◌<◌, length, get_or, add-one, ℕ, List, [], ◌∷◌, ◌++◌, drop, refl, sym, ap, ◌∙◌, subst, append_assoc, append-nil}
use Rattle.std.proofs.Math.Seq.{drop-cons}
use Rattle.tokens.specs.Tokens.{LexicalToken}
use Rattle.tree.specs.Tree.{Tree}
use Rattle.tree.specs.declared.kind.Pair.{Pair}
use Rattle.reading_laws.specs.TreeReadings.{IsReadingBehind}
use Rattle.unwrapping.specs.declared.comment.CommentRow.{CommentRow}
use Rattle.unwrapping.specs.declared.reading.TokenRow.{TokenRow}
use Rattle.unwrapping.specs.declared.reading.TreeReading.{TreeReading}
use Rattle.unwrapping.specs.Comparing.{BeginsAlike}
use Rattle.unwrapping.specs.Keeps.{SpacedToken, spaced_tokens}
use Rattle.unwrapping.specs.Readings.{comments_in, SaysComments, AreRows, none, one, IsRead}
use Rattle.unwrapping.proofs.OneReading.{same_readings}
use Rattle.mending.specs.KeptComments.{all_comments, KeepsComments}
use Rattle.mending.specs.Making.{HasComments}

-- what is left of the tokens, and the comments before it
pub record IsLeft (text : List ℕ) (pairs : List Pair) (at : ℕ) (rows : List TokenRow) (comments : List CommentRow) (ss : List SpacedToken) (stop : ℕ) : Type 0 where
  pub left : List SpacedToken
  pub left_rows : AreRows text pairs at rows left stop
  pub split : all_comments ss ≡ comments_in text comments ++ all_comments left

abbrev pub AreFound : ℕ → List ℕ → List TokenRow → ℕ → List TokenRow → List CommentRow → Type 0
AreFound from text all at rows comments = (pairs : List Pair) (ss : List SpacedToken) (stop : ℕ) → AreRows text pairs from all ss stop → IsLeft text pairs at rows comments ss stop

pub found_on : (from : ℕ) (text : List ℕ) (all : List TokenRow) (at : ℕ) (rows others : List TokenRow) (row : TokenRow) (comments more : List CommentRow) → rows ≡ row ∷ others → SaysComments text at row.span.start comments more →
    AreFound from text all at rows comments → AreFound from text all row.span.end others more
found_on from text all at rows others row comments more split says found pairs ss stop h = next (found pairs ss stop h)
  where
    ahead : (left : List SpacedToken) → AreRows text pairs at (row ∷ others) left stop → all_comments ss ≡ comments_in text comments ++ all_comments left → IsLeft text pairs row.span.end others more ss stop
    ahead left (one {s = s} {ss = behind} is rows) e = record {
      left = behind;
      left_rows = rows;
      split = e ∙ sym (append_assoc (comments_in text comments) s.comments (all_comments behind)) ∙ ap (λ cs. cs ++ all_comments behind) (sym (is.comments comments more says));
    }

    next : IsLeft text pairs at rows comments ss stop → IsLeft text pairs row.span.end others more ss stop
    next l = ahead l.left (subst (λ rs. AreRows text pairs at rs l.left stop) split l.left_rows) l.split

pub found_all : (from : ℕ) (text : List ℕ) (all : List TokenRow) (at : ℕ) (rows : List TokenRow) (comments : List CommentRow) → rows ≡ [] → AreFound from text all at rows comments → HasComments from text all comments
found_all from text all at rows comments nil found pairs ss stop h = end (found pairs ss stop h)
  where
    no_token : {at stop : ℕ} {zs : List SpacedToken} → AreRows text pairs at [] zs stop → zs ≡ []
    no_token none = refl

    end : IsLeft text pairs at rows comments ss stop → comments_in text comments ≡ all_comments ss
    end l =
        let gone : l.left ≡ [] = no_token (subst (λ rs. AreRows text pairs at rs l.left stop) nil l.left_rows) in
        sym (append-nil (comments_in text comments)) ∙ ap (λ zs. comments_in text comments ++ all_comments zs) (sym gone) ∙ sym l.split

-- what holds of what was read of both texts holds of all readings by their trees
pub keeps_read : (text : List ℕ) (n : Tree) (pairs : List Pair) (next : List ℕ) (again : Tree) (pairs_again : List Pair) (read read_again : TreeReading) (cs ds : List CommentRow) → BeginsAlike text read.start next read_again.start →
    HasComments read.start text read.tokens.items cs → HasComments read_again.start next read_again.tokens.items ds → comments_in text cs ≡ comments_in next ds →
    IsRead text n pairs read → IsRead next again pairs_again read_again → KeepsComments text n next again
keeps_read text n pairs next again pairs_again read read_again cs ds begins here there same r s = (begins n again r.start s.start, all_kept)
  where
    all_kept : (before after : List LexicalToken) (reading : IsReadingBehind n text before) (reading_again : IsReadingBehind again next after) → all_comments (spaced_tokens reading) ≡ all_comments (spaced_tokens reading_again)
    all_kept before after reading reading_again =
        ap all_comments (sym (same_readings n r.reading reading refl refl)) ∙ sym (here pairs _ r.stop r.rows) ∙ same ∙ there pairs_again _ s.stop s.rows ∙ ap all_comments (same_readings again s.reading reading_again refl refl)

pub next_row : (rows all : List TokenRow) (i : ℕ) (d : TokenRow) → rows ≡ all → i < length rows → drop i all ≡ get_or rows i d ∷ drop (i + 1) all
next_row rows all i d e h = ap (drop i) (sym e) ∙ drop-cons rows i d h ∙ (λ j. get_or rows i d ∷ drop (sym (add-one i) j) (e j))
