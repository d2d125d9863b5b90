-- What is passed from one place of a text to another, as characters.
use Rattle.std.proofs.Common.{◌≡◌, ℕ, ◌+◌, ◌-◌, ◌<◌, ◌≤◌, List, [], ◌∷◌, ◌++◌, length, get_or, take, drop, refl, sym, ap, ◌∙◌, subst, arith, append_assoc, append-nil, length-append, IsFalse, inl, inr}
use Rattle.std.specs.Prelude.{slice_range, encode_utf8_all, Option, Some, None, IfSome, IfNone}
use Rattle.std.specs.Char.{encode_utf8, len_utf8, is_ascii}
use Rattle.std.specs.Str.{chars, IsUtf8}
use Rattle.std.proofs.lemmas.Str.{encodes-append, encode_ascii, chars-nil, chars_past_char, encodes-chars, IsUtf8-drop, IsCharBoundary-after_ascii, IsCharBoundary-past_char, drop_past_char, length-encode, len_utf8_ascii}
use Rattle.std.proofs.lemmas.Bool.{cases_lt}
use Rattle.std.proofs.lemmas.Bool.Decides.{nat_tests}
use Rattle.std.proofs.lemmas.List.{drop_more, take_at, drop_all}
use Rattle.source_text.specs.Source.{IsPlace}
use Rattle.tokens.specs.Alphabet.{begins_with}
use Rattle.tokens.specs.Tokens.{size}
use Rattle.tokens.specs.Reading.{behind}
use Rattle.tokens.specs.Scanned.{Passed}

pub size_append : (v w : List ℕ) → size (v ++ w) ≡ size v + size w
size_append v w = ap length (encodes-append v w) ∙ length-append (encode_utf8_all v) (encode_utf8_all w)

pub size_one : (c : ℕ) → size (c ∷ []) ≡ len_utf8 c
size_one c = ap length (append-nil (encode_utf8 c)) ∙ length-encode c

pub passed_none : (text : List ℕ) (at : ℕ) → IsPlace text at → Passed text at at []
passed_none text at p = record { split = refl; reaches = omega arith; place = p }

pub passed_on : (text : List ℕ) (a b c : ℕ) (v w : List ℕ) → Passed text a b v → Passed text b c w → Passed text a c (v ++ w)
passed_on text a b c v w p q =
    let s = size_append v w in
    let h = p.reaches in
    let k = q.reaches in
    record {
      split = p.split ∙ ap (λ x. v ++ x) q.split ∙ sym (append_assoc v w (behind text c));
      reaches = omega arith;
      place = q.place;
    }

-- at the end of a text nothing is left
pub behind_end : (text : List ℕ) (at : ℕ) → length text ≤ at → behind text at ≡ []
behind_end text at h = ap chars (drop_all at text h) ∙ chars-nil

-- over an ASCII character
pub pass_ascii : (text : List ℕ) (at : ℕ) → IsUtf8 text → IsPlace text at → at < length text → get_or text at 0 < 128 →
    Passed text at (at + 1) (get_or text at 0 ∷ [])
pass_ascii text at u p lt h =
    let c = get_or text at 0 in
    let e : drop at text ≡ encode_utf8 c ++ drop (at + 1) text = drop_more text at 0 lt ∙ ap (λ x. x ++ drop (at + 1) text) (sym (encode_ascii c h)) in
    let n = size_one c ∙ len_utf8_ascii c h in
    record {
      split = chars_past_char (drop at text) (drop (at + 1) text) c (IsUtf8-drop text at u p) e;
      reaches = omega arith;
      place = IsCharBoundary-after_ascii text at u lt h;
    }

-- a character of one byte is passed, by the bytes of the text
pub pass_byte : (text bytes : List ℕ) (at : ℕ) → IsUtf8 text → bytes ≡ text → IsPlace text at → at < length bytes → get_or bytes at 0 < 128 → Passed text at (at + 1) (get_or bytes at 0 ∷ [])
pass_byte text bytes at u e p = subst (λ (x : List ℕ). at < length x → get_or x at 0 < 128 → Passed text at (at + 1) (get_or x at 0 ∷ [])) (sym e) (pass_ascii text at u p)

-- where no ASCII character stands
pub no_ascii_end : (text : List ℕ) (at : ℕ) → length text ≤ at → IsFalse (begins_with is_ascii (behind text at))
no_ascii_end text at h = ap (begins_with is_ascii) (behind_end text at h)

pub no_ascii_far : (text : List ℕ) (at : ℕ) → IsUtf8 text → IsPlace text at → at < length text → 128 ≤ get_or text at 0 → IsFalse (begins_with is_ascii (behind text at))
no_ascii_far text at u p lt far = by_front (behind text at) refl where
  large : (c : ℕ) → 128 ≤ c → IsFalse (is_ascii c)
  large c h = grind (arith, nat_tests)

  by_front : (cs : List ℕ) → behind text at ≡ cs → IsFalse (begins_with is_ascii cs)
  by_front [] e = refl
  by_front (c ∷ cs) e = elim (cases_lt c 128) [
    | inl small ↦
        let whole : drop at text ≡ encode_utf8 c ++ encode_utf8_all cs = sym (encodes-chars (drop at text) (IsUtf8-drop text at u p)) ∙ ap encode_utf8_all e in
        let front : get_or text at 0 ∷ drop (at + 1) text ≡ c ∷ encode_utf8_all cs = sym (drop_more text at 0 lt) ∙ whole ∙ ap (λ x. x ++ encode_utf8_all cs) (encode_ascii c small) in
        let q : get_or text at 0 ≡ c = cc in
        absurd (omega arith)
    | inr ge ↦ large c ge
  ]

-- over any character
pub pass_char : (text rest : List ℕ) (at c : ℕ) → IsUtf8 text → IsPlace text at → drop at text ≡ encode_utf8 c ++ rest → Passed text at (at + len_utf8 c) (c ∷ [])
pass_char text rest at c u p e =
    let n = size_one c in
    record {
      split = chars_past_char (drop at text) rest c (IsUtf8-drop text at u p) e ∙ ap (λ x. c ∷ chars x) (sym (drop_past_char text rest at c e));
      reaches = omega arith;
      place = IsCharBoundary-past_char text rest at c p.0 (IsUtf8-drop text at u p) e;
    }

pub passed_ordered : (text : List ℕ) (at stop : ℕ) (word : List ℕ) → Passed text at stop word → at ≤ stop
passed_ordered text at stop word p = let h = p.reaches in omega arith

-- the bytes that are passed
pub passed_slice : (text : List ℕ) (at stop : ℕ) (word : List ℕ) → IsUtf8 text → IsPlace text at → Passed text at stop word →
    encode_utf8_all word ≡ slice_range text at stop
passed_slice text at stop word u p h =
    let r = h.reaches in
    let whole : drop at text ≡ encode_utf8_all word ++ encode_utf8_all (behind text stop) =
    sym (encodes-chars (drop at text) (IsUtf8-drop text at u p)) ∙ ap encode_utf8_all h.split ∙ encodes-append word (behind text stop) in
    let n : size word ≡ stop - at = omega arith in
    sym (take_at (encode_utf8_all word) (encode_utf8_all (behind text stop)) (stop - at) n) ∙ ap (λ x. take (stop - at) x) (sym whole)

-- what follows for the value of an option, and for none
pub some_gives : {A : Type 0} (P Q : A → Type 0) (o : Option A) → ((x : A) → P x → Q x) → IfSome o P → IfSome o Q
some_gives P Q (Some x) f h = f x h
some_gives P Q None f h = tt

pub none_gives : {A : Type 0} (P Q : Type 0) (o : Option A) → (P → Q) → IfNone o P → IfNone o Q
none_gives P Q (Some x) f h = tt
none_gives P Q None f h = f h
