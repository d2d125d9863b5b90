-- Where a token that is read stands in its text, and that a word behind separators is the token that is read.
use Rattle.std.proofs.Common.{◌≡◌, ◌≢◌, ℕ, ◌+◌, ◌<◌, ◌≤◌, List, [], ◌∷◌, ◌++◌, length, drop, sym, ap, ◌∙◌, subst, arith, append_assoc}
use Rattle.std.specs.Prelude.{slice_range, encode_utf8_all}
use Rattle.std.specs.Char.{encode_utf8, len_utf8}
use Rattle.std.specs.Str.{IsUtf8}
use Rattle.std.proofs.lemmas.Str.{encodes-chars, IsUtf8-drop}
use Rattle.std.proofs.lemmas.List.{append_cancel_left}
use Rattle.source_text.specs.Source.{IsPlace}
use Rattle.tokens.specs.Lexical.{End}
use Rattle.tokens.specs.Goals.{Goal}
use Rattle.tokens.specs.Tokens.{LexicalToken, size}
use Rattle.tokens.specs.Reading.{behind, Reads}
use Rattle.tokens.specs.Scanned.{Passed}
use Rattle.tokens.proofs.PassedCharacters.{size_append, size_one, pass_char, passed_none, passed_on, passed_slice}
use Rattle.tokens.proofs.ScannedTokens.{word_forward}

-- characters that stand at a place are passed
pub pass_word : (text : List ℕ) (at : ℕ) (word rest : List ℕ) → IsUtf8 text → IsPlace text at → behind text at ≡ word ++ rest → Passed text at (at + size word) word
pass_word text at [] rest u p e = let z : at ≡ at + size [] = omega arith in subst (λ n. Passed text at n []) z (passed_none text at p)
pass_word text at (c ∷ word) rest u p e =
    let whole : drop at text ≡ encode_utf8 c ++ encode_utf8_all (word ++ rest) = sym (encodes-chars (drop at text) (IsUtf8-drop text at u p)) ∙ ap encode_utf8_all e in
    let one = pass_char text (encode_utf8_all (word ++ rest)) at c u p whole in
    let behind_one : behind text (at + len_utf8 c) ≡ word ++ rest = (let z = sym one.split ∙ e in cc) in
    let others = pass_word text (at + len_utf8 c) word rest u one.place behind_one in
    let n = size_append (c ∷ []) word in
    let m = size_one c in
    let z : at + len_utf8 c + size word ≡ at + size (c ∷ word) = omega arith in
    subst (λ k. Passed text at k (c ∷ word)) z (passed_on text at (at + len_utf8 c) (at + len_utf8 c + size word) (c ∷ []) word one others)

-- and what is behind them is what was said
pub rest_of_word : (text : List ℕ) (at : ℕ) (word rest : List ℕ) → IsUtf8 text → IsPlace text at → behind text at ≡ word ++ rest → behind text (at + size word) ≡ rest
rest_of_word text at word rest u p e = let h = pass_word text at word rest u p e in append_cancel_left word (behind text (at + size word)) rest (sym h.split ∙ e)

pub record IsWithin (text : List ℕ) (at : ℕ) (t : LexicalToken) : Type 0 where
  pub behind_place : at ≤ t.start
  pub ordered : t.start ≤ t.stop
  pub inside : t.stop ≤ length text
  pub size : length t.text + t.start ≡ t.stop

-- what stands between a place and a token, and the token
gap_passed : (text : List ℕ) (goal : Goal) (at : ℕ) (t : LexicalToken) → IsUtf8 text → IsPlace text at → (h : Reads text goal at t) → Passed text at t.start h.gap
gap_passed text goal at t u p h =
    let e : behind text at ≡ h.gap ++ (h.word ++ behind text t.stop) = h.split ∙ append_assoc h.gap h.word (behind text t.stop) in
    subst (λ n. Passed text at n h.gap) (sym h.start) (pass_word text at h.gap (h.word ++ behind text t.stop) u p e)

word_passed : (text : List ℕ) (goal : Goal) (at : ℕ) (t : LexicalToken) → IsUtf8 text → IsPlace text at → (h : Reads text goal at t) → Passed text t.start t.stop h.word
word_passed text goal at t u p h =
    let g = gap_passed text goal at t u p h in
    let e : behind text t.start ≡ h.word ++ behind text t.stop =
    append_cancel_left h.gap (behind text t.start) (h.word ++ behind text t.stop) (sym g.split ∙ h.split ∙ append_assoc h.gap h.word (behind text t.stop)) in
    subst (λ n. Passed text t.start n h.word) (sym h.stop) (pass_word text t.start h.word (behind text t.stop) u g.place e)

-- a token stands behind the place where it is read, and within the text
pub token_within : (text : List ℕ) (goal : Goal) (at : ℕ) (t : LexicalToken) → IsUtf8 text → IsPlace text at → Reads text goal at t → IsWithin text at t
token_within text goal at t u p h =
    let w = word_passed text goal at t u p h in
    let a = h.start in
    let b = h.stop in
    let c = ap length h.text in
    let i = w.place.0 in
    record { behind_place = omega arith; ordered = omega arith; inside = i; size = omega arith }

-- its text is the slice of the text between its places
pub token_slice : (text : List ℕ) (goal : Goal) (at : ℕ) (t : LexicalToken) → IsUtf8 text → IsPlace text at → Reads text goal at t → t.text ≡ slice_range text t.start t.stop
token_slice text goal at t u p h =
    let g = gap_passed text goal at t u p h in
    h.text ∙ passed_slice text t.start t.stop h.word u g.place (word_passed text goal at t u p h)

-- a token begins and ends at places of the text
pub token_places : (text : List ℕ) (goal : Goal) (at : ℕ) (t : LexicalToken) → IsUtf8 text → IsPlace text at → Reads text goal at t → IsPlace text t.start × IsPlace text t.stop
token_places text goal at t u p h = let g = gap_passed text goal at t u p h in let w = word_passed text goal at t u p h in (g.place, w.place)

-- a token that is not the end is not empty
pub token_goes_on : (text : List ℕ) (goal : Goal) (at : ℕ) (t : LexicalToken) → IsUtf8 text → IsPlace text at → Reads text goal at t → t.class ≢ End → t.start < t.stop
token_goes_on text goal at t u p h ne =
    word_forward t.class text t.start t.stop (record { word = h.word; passed = word_passed text goal at t u p h; longest = h.longest }) ne
