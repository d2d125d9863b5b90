-- The turns of the loop that reads a text by its tree.
use Rattle.std.proofs.Common.{◌≡◌, ℕ, ◌+◌, Bool, true, not, ◌&&◌, List, [], ◌∷◌, ◌++◌, drop, IsTrue, refl, sym, ap, ◌∙◌, subst, append_assoc, arith}
use Rattle.std.specs.Prelude.{encode_utf8_all, slice_range}
use Rattle.std.specs.Str.{IsUtf8}
use Rattle.std.specs.Char.{encode_utf8, len_utf8}
use Rattle.std.proofs.lemmas.Bool.Decides.{nat_tests}
use Rattle.std.proofs.lemmas.Str.{encodes-chars, IsUtf8-drop}
use Rattle.std.proofs.lemmas.List.{append_cancel_left}
use Rattle.source_text.specs.Source.{IsPlace}
use Rattle.tokens.specs.Alphabet.{is_empty}
use Rattle.tokens.specs.Comments.{Separators}
use Rattle.tokens.specs.declared.token.Goal.{Goal}
use Rattle.tokens.specs.declared.token.TokenClass.{TokenClass}
use Rattle.tokens.specs.declared.token.TokenClass.TheVariants.{End}
use Rattle.tokens.specs.Lexical.{is_of, none_longer, ends_well, is_token}
use Rattle.tokens.specs.Tokens.{LexicalToken, IsTokenAt, is_end, size}
use Rattle.tokens.specs.Reading.{behind, Reads}
use Rattle.tokens.specs.Scanned.{Passed}
use Rattle.tokens.proofs.PassedCharacters.{size_one, passed_none, passed_on, passed_slice, pass_char}
use Rattle.tokens.proofs.TriviaSteps.{nil_only}
use Rattle.tree.specs.Tree.{Tree}
use Rattle.tree.specs.declared.kind.Pair.{Pair}
use Rattle.reading_laws.specs.TreeReadings.{tree_goal, IsTreeReading, last, more, hashbang_line, IsReadingBehind}
use Rattle.unwrapping.specs.declared.comment.CommentRow.{CommentRow}
use Rattle.unwrapping.specs.declared.reading.TokenRow.{TokenRow}
use Rattle.unwrapping.specs.declared.reading.TreeReading.{TreeReading}
use Rattle.unwrapping.specs.Keeps.{comments, SpacedToken, spaced_tokens, is_grouping}
use Rattle.unwrapping.specs.Readings.{bytes_in, comments_in, SaysComments, IsRow, AreRows, none, one, IsRead}
use Rattle.unwrapping.proofs.OneReading.{comments_same}
use Rattle.unwrapping.proofs.CommentSteps.{size_cons}

-- ---- what stands before a token

-- some characters that stand at a place are passed
passed_word : (text : List ℕ) (at : ℕ) (v w : List ℕ) → IsUtf8 text → IsPlace text at → behind text at ≡ v ++ w → Passed text at (at + size v) v
passed_word text at [] w u p e = let s : at ≡ at + size [] = omega arith in subst (λ k. Passed text at k []) s (passed_none text at p)
passed_word text at (c ∷ v) w u p e =
    let bytes : drop at text ≡ encode_utf8 c ++ encode_utf8_all (v ++ w) = sym (encodes-chars (drop at text) (IsUtf8-drop text at u p)) ∙ ap encode_utf8_all e in
    let first : Passed text at (at + len_utf8 c) (c ∷ []) = pass_char text (encode_utf8_all (v ++ w)) at c u p bytes in
    let whole : c ∷ behind text (at + len_utf8 c) ≡ c ∷ (v ++ w) = sym first.split ∙ e in
    let rest : behind text (at + len_utf8 c) ≡ v ++ w = cc in
    let others = passed_word text (at + len_utf8 c) v w u first.place rest in
    let s : at + len_utf8 c + size v ≡ at + size (c ∷ v) = let a = size_cons c v in let b = size_one c in omega arith in
    subst (λ k. Passed text at k (c ∷ v)) s (passed_on text at (at + len_utf8 c) (at + len_utf8 c + size v) (c ∷ []) v first others)

-- the gap before a token, as what is passed
pub gap_passed : (text : List ℕ) (goal : Goal) (at : ℕ) (t : LexicalToken) (rest : List ℕ) → IsUtf8 text → IsPlace text at → (x : IsTokenAt goal at (behind text at) t rest) → Passed text at t.start x.gap
gap_passed text goal at t rest u p x = subst (λ k. Passed text at k x.gap) (sym x.start) (passed_word text at x.gap (x.word ++ rest) u p (x.split ∙ append_assoc x.gap x.word rest))

pub after_gap : (text : List ℕ) (goal : Goal) (at : ℕ) (t : LexicalToken) (rest : List ℕ) → IsUtf8 text → IsPlace text at → (x : IsTokenAt goal at (behind text at) t rest) → x.word ++ rest ≡ behind text t.start
after_gap text goal at t rest u p x =
    append_cancel_left x.gap (x.word ++ rest) (behind text t.start) (sym (append_assoc x.gap x.word rest) ∙ sym x.split ∙ (gap_passed text goal at t rest u p x).split)

-- a token, with what stands before it
abbrev pub spaced : {goal : Goal} {at : ℕ} {cs rest : List ℕ} (t : LexicalToken) → IsTokenAt goal at cs t rest → SpacedToken
spaced t x = record { token = t; gap = encode_utf8_all x.gap; comments = comments x.separated }

token_comments : (text : List ℕ) (goal : Goal) (at : ℕ) (t : LexicalToken) (rest : List ℕ) (old new : List CommentRow) → IsUtf8 text → IsPlace text at → (x : IsTokenAt goal at (behind text at) t rest) →
    SaysComments text at t.start old new → comments_in text new ≡ comments_in text old ++ comments x.separated
token_comments text goal at t rest old new u p x says =
    let e = after_gap text goal at t rest u p x in
    let there : Separators x.gap (behind text t.start) = subst (Separators x.gap) e x.separated in
    says x.gap (gap_passed text goal at t rest u p x) there ∙ ap (λ c. comments_in text old ++ c) (comments_same there x.separated refl (sym e))

-- the row of a token that is read from a place on
pub row_of_token : (text : List ℕ) (pairs : List Pair) (goal : Goal) (at : ℕ) (t : LexicalToken) (rest : List ℕ) (row : TokenRow) → IsUtf8 text → IsPlace text at → (x : IsTokenAt goal at (behind text at) t rest) →
    row.class ≡ t.class → t.text ≡ bytes_in text row.span → row.span.start ≡ t.start → (row.is_grouping ≡ true → IsTrue (is_grouping pairs t)) → IsRow text pairs at row (spaced t x)
row_of_token text pairs goal at t rest row u p x class bytes start grouping =
    record {
      class = class;
      bytes = bytes;
      grouping = grouping;
      gap = passed_slice text at t.start x.gap u p (gap_passed text goal at t rest u p x) ∙ ap (λ i. slice_range text at i) (sym start);
      comments = λ old new says. token_comments text goal at t rest old new u p x (subst (λ i. SaysComments text at i old new) start says);
    }

-- ---- the reading so far

pub record IsWhole (n : Tree) (text : List ℕ) (before after : List SpacedToken) : Type 0 where
  pub tokens : List LexicalToken
  pub reading : IsReadingBehind n text tokens
  pub same : spaced_tokens reading ≡ before ++ after

-- rows have the tokens from a place to another: with whatever is read from there on they are the reading of the tree
pub record IsReadTo (text : List ℕ) (n : Tree) (pairs : List Pair) (from at : ℕ) (rows : List TokenRow) : Type 0 where
  pub tokens : List SpacedToken
  pub hold : AreRows text pairs from rows tokens at
  pub goes_on : (others : List LexicalToken) (r : IsTreeReading n at (behind text at) others) → IsWhole n text tokens (spaced_tokens r)

-- the first token is read behind the line of `#!`
pub begins_reading : (text : List ℕ) (n : Tree) (pairs : List Pair) (from : ℕ) → from ≡ size (hashbang_line n text) → IsReadTo text n pairs from from []
begins_reading text n pairs from e = subst (λ at. IsReadTo text n pairs at at []) (sym e) (record { tokens = []; hold = none; goes_on = λ others r. record { tokens = others; reading = r; same = refl } })

rows_on : (text : List ℕ) (pairs : List Pair) {at stop : ℕ} (rows : List TokenRow) (ss : List SpacedToken) (row : TokenRow) (s : SpacedToken) → AreRows text pairs at rows ss stop → IsRow text pairs stop row s →
    AreRows text pairs at (rows ++ row ∷ []) (ss ++ s ∷ []) row.span.end
rows_on text pairs rows ss row s none is = one is none
rows_on text pairs rows ss row s (one h others) is = one h (rows_on text pairs _ _ row s others is)

-- one token more
pub reads_on : (text : List ℕ) (n : Tree) (pairs : List Pair) (from at : ℕ) (rows : List TokenRow) (row : TokenRow) (t : LexicalToken) → IsReadTo text n pairs from at rows →
    (read : Reads text (tree_goal n t.start) at t) → IsRow text pairs at row (spaced t read) → row.span.end ≡ t.stop → IsTrue (not (is_end t.class)) → IsReadTo text n pairs from t.stop (rows ++ row ∷ [])
reads_on text n pairs from at rows row t h read is stop goes =
    record {
      tokens = h.tokens ++ spaced t read ∷ [];
      hold = subst (AreRows text pairs from (rows ++ row ∷ []) (h.tokens ++ spaced t read ∷ [])) stop (rows_on text pairs rows h.tokens row (spaced t read) h.hold is);
      goes_on = λ others r.
          let w = h.goes_on (t ∷ others) (more read goes r) in
          record { tokens = w.tokens; reading = w.reading; same = w.same ∙ sym (append_assoc h.tokens (spaced t read ∷ []) (spaced_tokens r)) };
    }

-- nothing stands after the end
ends_text : (class : TokenClass) (word rest : List ℕ) → class ≡ End → IsTrue (is_token class word rest) → rest ≡ []
ends_text class word rest e h = nil_only rest (second (is_of End word) (is_empty rest) (none_longer End word rest) (ends_well End rest) (subst (λ c. IsTrue (is_token c word rest)) e h)) where
  second : (a b d e : Bool) → IsTrue (((a && b) && d) && e) → IsTrue b
  second a b d e h = grind (arith, nat_tests)

-- the end of the text
pub reads_end : (text : List ℕ) (n : Tree) (pairs : List Pair) (from at : ℕ) (rows : List TokenRow) (row : TokenRow) (t : LexicalToken) (read : TreeReading) → read.start ≡ from → from ≡ size (hashbang_line n text) → IsReadTo text n pairs from at rows →
    ((rest : List ℕ) (x : IsTokenAt (tree_goal n t.start) at (behind text at) t rest) → IsRow text pairs at row (spaced t x)) → Reads text (tree_goal n t.start) at t → t.class ≡ End → read.tokens.items ≡ rows ++ row ∷ [] → IsRead text n pairs read
reads_end text n pairs from at rows row t read start line h is reads ends same =
    let nothing_more = ends_text t.class reads.word (behind text t.stop) ends reads.longest in
    let at_end : IsTokenAt (tree_goal n t.start) at (behind text at) t [] = subst (λ r. IsTokenAt (tree_goal n t.start) at (behind text at) t r) nothing_more reads in
    let w = h.goes_on (t ∷ []) (last at_end (subst (λ c. IsTrue (is_end c)) (sym ends) refl)) in
    record {
      tokens = w.tokens;
      reading = w.reading;
      start = start ∙ line;
      stop = row.span.end;
      rows = subst (λ ss. AreRows text pairs read.start read.tokens.items ss row.span.end) (sym w.same)
          (subst (λ rs. AreRows text pairs read.start rs (h.tokens ++ spaced t at_end ∷ []) row.span.end) (sym same)
          (subst (λ k. AreRows text pairs k (rows ++ row ∷ []) (h.tokens ++ spaced t at_end ∷ []) row.span.end) (sym start) (rows_on text pairs rows h.tokens row (spaced t at_end) h.hold (is [] at_end))));
    }

pub no_end : (class : TokenClass) → (class ≡ End → ⊥) → IsTrue (not (is_end class))
no_end End h = absurd (h refl)
no_end _ h = refl
