-- The values of strings and templates, character by character.
use Rattle.std.proofs.Common.{◌≡◌, ℕ, zero, suc, ◌+◌, ◌-◌, ◌<◌, ◌≤◌, Bool, true, false, not, ◌&&◌, ◌||◌, ◌==◌, List, [], ◌∷◌, ◌++◌, length, get_or, take, drop, Option, Some, None, is_some, unwrap_or, if◌then◌else◌, IsTrue, refl, sym, ap, ◌∙◌, arith, append_assoc, append-nil, length-append, inl, inr, ◌⊎◌}
use Rattle.std.specs.Prelude.{encode_utf8_all, slice_range}
use Rattle.std.specs.List.{list_any}
use Rattle.std.specs.Char.{encode_utf8}
use Rattle.std.specs.Str.{chars, IsUtf8}
use Rattle.std.proofs.lemmas.Bool.{cases_lt, eqb-true}
use Rattle.std.proofs.lemmas.Bool.Decides.{nat_tests}
use Rattle.std.proofs.lemmas.List.{take_at, get_or_at}
use Rattle.std.proofs.lemmas.List.Folds.{list_any-append}
use Rattle.std.proofs.lemmas.Str.{encodes-append, encodes-chars, encode_ascii, chars_from_encodes, inside_one, IsCharBoundary-start, IsCharBoundary-before_ascii, IsCharBoundary-after_ascii}
use Rattle.source_text.specs.Source.{IsPlace}
use Rattle.tokens.specs.declared.escape.Escaped.{Escaped as Found}
use Rattle.tokens.specs.Alphabet.{one_of, is_empty, line_feed, carriage_return}
use Rattle.tokens.specs.Escapes.{piece, more_of, join_units, units_behind, unescaped}
use Rattle.tokens.specs.Strings.{closes_string, is_string, string_contents, string_units}
use Rattle.tokens.specs.Templates.{IsSettled, line_end_turned, raw_after, raw_value, cooked_value}
use Rattle.tokens.specs.Escaped.{units_of, IsPieceAt}
use Rattle.tokens.specs.Reading.{behind}
use Rattle.tokens.specs.Scanned.{Passed}
use Rattle.tokens.proofs.Beginnings.{true_false}

-- ---- the units of a text with escapes

abbrev pub units_after : List ℕ → Option (List ℕ) → Option (List ℕ)
units_after us None = None
units_after us (Some vs) = Some (us ++ vs)

units_skip : (v cs : List ℕ) → units_behind (length v) (v ++ cs) ≡ unescaped cs
units_skip [] cs = refl
units_skip (c ∷ v) cs = units_skip v cs

units_join : (m : ℕ) (us : List ℕ) (o : Option (List ℕ)) → join_units (Some (record { more = m; units = us })) o ≡ units_after us o
units_join m us None = refl
units_join m us (Some vs) = refl

units_after_twice : (us vs : List ℕ) (o : Option (List ℕ)) → units_after us (units_after vs o) ≡ units_after (us ++ vs) o
units_after_twice us vs None = refl
units_after_twice us vs (Some ws) = ap (λ x. Some x) (sym (append_assoc us vs ws))

-- the units so far, up to a place
pub record InUnits (text : List ℕ) (at : ℕ) (out : List ℕ) : Type 0 where
  pub place : IsPlace text at
  pub same : unescaped (chars text) ≡ units_after out (unescaped (behind text at))

pub units_begin : (text : List ℕ) → IsUtf8 text → InUnits text 0 []
units_begin text u = record { place = IsCharBoundary-start text u; same = alone (unescaped (chars text)) } where
  alone : (o : Option (List ℕ)) → o ≡ units_after [] o
  alone None = refl
  alone (Some us) = refl

pub units_go_on : (text : List ℕ) (at stop c : ℕ) (found : Found) (out : List ℕ) → InUnits text at out → Passed text at stop (c ∷ []) →
    IsPieceAt (piece c (behind text stop)) 0 text stop found → InUnits text found.end (out ++ units_of found.value)
units_go_on text at stop c found out h p q =
    let cs = behind text stop in
    let n : length q.word + 0 ≡ length q.word = omega arith in
    let us = units_of found.value in
    let one : unescaped (behind text at) ≡ units_after us (unescaped (behind text found.end)) =
    ap unescaped p.split ∙ ap (λ o. join_units o (units_behind (more_of o) cs)) q.is ∙ units_join (length q.word + 0) us (units_behind (length q.word + 0) cs)
    ∙ ap (λ m. units_after us (units_behind m cs)) n ∙ ap (λ x. units_after us (units_behind (length q.word) x)) q.passed.split
    ∙ ap (units_after us) (units_skip q.word (behind text found.end)) in
    record { place = q.passed.place; same = h.same ∙ ap (units_after out) one ∙ units_after_twice out us (unescaped (behind text found.end)) }

-- ---- what stands between the quotes

nil_only : (cs : List ℕ) → IsTrue (is_empty cs) → cs ≡ []
nil_only [] h = refl
nil_only (c ∷ cs) h = absurd (true_false _ h refl)

-- a string ends with its quote
closes_ends : (quote skipped : ℕ) (w : List ℕ) → IsTrue (closes_string quote skipped w) → (v : List ℕ) × (w ≡ v ++ quote ∷ [])
closes_ends quote skipped [] h = absurd (true_false _ h refl)
closes_ends quote (suc skipped) (c ∷ w) h = let k = closes_ends quote skipped w h in (c ∷ k.0, ap (λ x. c ∷ x) k.1)
closes_ends quote zero (c ∷ w) h =
    by_quote (c == quote) (λ t. eqb-true c quote t) h (λ k. let r = closes_ends quote (more_of (piece c w)) w (third ((c == line_feed) || (c == carriage_return)) (is_some (piece c w)) (closes_string quote (more_of (piece c w)) w) k) in
    (c ∷ r.0, ap (λ x. c ∷ x) r.1)) where
      third : (a b d : Bool) → IsTrue (not a && b && d) → IsTrue d
      third a b d h = grind (arith, nat_tests)

      by_quote : (a : Bool) → (a ≡ true → c ≡ quote) → IsTrue (if a then is_empty w else not ((c == line_feed) || (c == carriage_return)) && is_some (piece c w) && closes_string quote (more_of (piece c w)) w) →
          (IsTrue (not ((c == line_feed) || (c == carriage_return)) && is_some (piece c w) && closes_string quote (more_of (piece c w)) w) → (v : List ℕ) × (c ∷ w ≡ v ++ quote ∷ [])) →
          (v : List ℕ) × (c ∷ w ≡ v ++ quote ∷ [])
      by_quote true e h f = ([], ap (λ x. x ∷ w) (e refl) ∙ ap (λ x. quote ∷ x) (nil_only w h))
      by_quote false e h f = f h

-- a string's text: its quotes, which are ASCII, and the bytes between them
pub record Quoted (text : List ℕ) : Type 0 where
  pub quote : ℕ
  pub ascii : quote < 128
  pub inner : List ℕ
  pub contents : string_contents (chars text) ≡ inner
  pub bytes : text ≡ quote ∷ encode_utf8_all inner ++ quote ∷ []

quote_ascii : (c : ℕ) → IsTrue (one_of "'\"" c) → c < 128
quote_ascii c h = grind (arith, nat_tests)

pub quoted : (text : List ℕ) → IsUtf8 text → IsTrue (is_string (chars text)) → Quoted text
quoted text u h = of_chars (chars text) (encodes-chars text u) refl h where
  both : (a b : Bool) → IsTrue (a && b) → IsTrue a × IsTrue b
  both a b h = (grind (arith, nat_tests), grind (arith, nat_tests))

  of_chars : (cs : List ℕ) → encode_utf8_all cs ≡ text → chars text ≡ cs → IsTrue (is_string cs) → Quoted text
  of_chars [] e s h = absurd (true_false _ h refl)
  of_chars (q ∷ w) e s h =
      let b = both (one_of "'\"" q) (closes_string q 0 w) h in
      let k = closes_ends q 0 w b.1 in
      let lt = quote_ascii q b.0 in
      let one = encode_ascii q lt in
      let n : length w - 1 ≡ length k.0 = let m = ap length k.1 in let l = length-append k.0 (q ∷ []) in omega arith in
      record {
        quote = q;
        ascii = lt;
        inner = k.0;
        contents = ap string_contents s ∙ ap (λ m. take m w) n ∙ ap (take (length k.0)) k.1 ∙ take_at k.0 (q ∷ []) (length k.0) refl;
        bytes = sym e ∙ ap (λ x. x ++ encode_utf8_all w) one ∙ ap (λ x. q ∷ encode_utf8_all x) k.1 ∙ ap (λ x. q ∷ x) (encodes-append k.0 (q ∷ []))
            ∙ ap (λ x. q ∷ encode_utf8_all k.0 ++ x) (append-nil (encode_utf8 q) ∙ one);
      }

pub quoted_length : (text : List ℕ) (q : Quoted text) → length text ≡ length (encode_utf8_all q.inner) + 2
quoted_length text q = let n = ap length q.bytes in let m = length-append (encode_utf8_all q.inner) (q.quote ∷ []) in omega arith

pub quoted_bytes : (text : List ℕ) (q : Quoted text) → slice_range text 1 (length text - 1) ≡ encode_utf8_all q.inner
quoted_bytes text q =
    let n = quoted_length text q in
    let m : length text - 1 - 1 ≡ length (encode_utf8_all q.inner) = omega arith in
    ap (λ k. take k (drop 1 text)) m ∙ ap (λ x. take (length (encode_utf8_all q.inner)) (drop 1 x)) q.bytes ∙ take_at (encode_utf8_all q.inner) (q.quote ∷ []) (length (encode_utf8_all q.inner)) refl

pub quoted_start : (text : List ℕ) → IsUtf8 text → Quoted text → IsPlace text 1
quoted_start text u q =
    let n = quoted_length text q in
    let e : get_or text 0 0 ≡ q.quote = ap (λ x. get_or x 0 0) q.bytes in
    let a = q.ascii in
    IsCharBoundary-after_ascii text 0 u (omega arith) (omega arith)

pub quoted_stop : (text : List ℕ) → Quoted text → IsPlace text (length text - 1)
quoted_stop text q =
    let n = quoted_length text q in
    let i = q.inner in
    let e : get_or text (length text - 1) 0 ≡ q.quote =
    ap (λ x. get_or x (length text - 1) 0) q.bytes ∙ ap (λ k. get_or (q.quote ∷ encode_utf8_all q.inner ++ q.quote ∷ []) k 0) at ∙ get_or_at (q.quote ∷ encode_utf8_all q.inner) q.quote [] 0 (length (encode_utf8_all q.inner) + 1) long in
    let a = q.ascii in
    IsCharBoundary-before_ascii text (length text - 1) (omega arith) (omega arith) where
      at : length text - 1 ≡ length (encode_utf8_all q.inner) + 1
      at = let n = quoted_length text q in omega arith

      long : length (q.quote ∷ encode_utf8_all q.inner) ≡ length (encode_utf8_all q.inner) + 1
      long = omega arith

-- what the bytes between the quotes stand for
pub quoted_units : (text bytes : List ℕ) → Quoted text → IsUtf8 bytes → bytes ≡ slice_range text 1 (length text - 1) → unwrap_or (unescaped (chars bytes)) [] ≡ string_units (chars text)
quoted_units text bytes q u e =
    let inner = chars_from_encodes q.inner bytes u (sym (e ∙ quoted_bytes text q)) in
    ap (λ x. unwrap_or (unescaped x) []) (sym (q.contents ∙ inner))

-- ---- line ends

-- what has been written up to a place
pub record InTurned (text : List ℕ) (at : ℕ) (returned : Bool) (bytes : List ℕ) : Type 0 where
  pub place : IsPlace text at
  pub done : List ℕ
  pub written : bytes ≡ encode_utf8_all done
  pub same : raw_value (chars text) ≡ done ++ raw_after returned (behind text at)

pub turned_begins : (text : List ℕ) → IsUtf8 text → InTurned text 0 false []
turned_begins text u = record { place = IsCharBoundary-start text u; done = []; written = refl; same = refl }

pub turned_goes_on : (text : List ℕ) (at stop c : ℕ) (returned : Bool) (bytes : List ℕ) → InTurned text at returned bytes → Passed text at stop (c ∷ []) →
    InTurned text stop (c == carriage_return) (bytes ++ encode_utf8_all (line_end_turned returned c))
turned_goes_on text at stop c returned bytes h p =
    let new = line_end_turned returned c in
    record {
      place = p.place;
      done = h.done ++ new;
      written = ap (λ x. x ++ encode_utf8_all new) h.written ∙ sym (encodes-append h.done new);
      same = h.same ∙ ap (λ x. h.done ++ raw_after returned x) p.split ∙ sym (append_assoc h.done new (raw_after (c == carriage_return) (behind text stop)));
    }

-- a text without U+000D is its own raw value
pub raw_same : (cs : List ℕ) → list_any (λ c. c == carriage_return) cs ≡ false → raw_value cs ≡ cs
raw_same [] e = refl
raw_same (c ∷ cs) e = here (c == carriage_return) e (λ k. raw_same cs k) where
  here : (a : Bool) → (a || list_any (λ c. c == carriage_return) cs) ≡ false → (list_any (λ c. c == carriage_return) cs ≡ false → raw_value cs ≡ cs) →
      (if a then line_feed ∷ [] else c ∷ []) ++ raw_after a cs ≡ c ∷ cs
  here true e f = absurd (true_false true refl e)
  here false e f = ap (λ x. c ∷ x) (f e)

-- no raw value has one
pub raw_none : (returned : Bool) (cs : List ℕ) → list_any (λ c. c == carriage_return) (raw_after returned cs) ≡ false
raw_none returned [] = refl
raw_none returned (c ∷ cs) = here (returned && (c == line_feed)) (c == carriage_return) refl (raw_none (c == carriage_return) cs) where
  here : (a b : Bool) → (c == carriage_return) ≡ b → list_any (λ c. c == carriage_return) (raw_after (c == carriage_return) cs) ≡ false →
      list_any (λ c. c == carriage_return) ((if a then [] else if b then line_feed ∷ [] else c ∷ []) ++ raw_after (c == carriage_return) cs) ≡ false
  here true b q e = e
  here false true q e = e
  here false false q e = ap (λ x. x || list_any (λ c. c == carriage_return) (raw_after (c == carriage_return) cs)) q ∙ e

-- the raw value of a raw value is itself, and has the same cooked value
pub raw_again : (cs : List ℕ) → raw_value (raw_value cs) ≡ raw_value cs
raw_again cs = raw_same (raw_value cs) (raw_none false cs)

pub cooked_again : (cs : List ℕ) → cooked_value (raw_value cs) ≡ cooked_value cs
cooked_again cs = ap (λ x. units_behind 0 x) (raw_again cs)

-- ---- U+000D among the bytes, and among the characters

far_bytes : (xs : List ℕ) → ((k : ℕ) → k < length xs → 128 ≤ get_or xs k 0) → list_any (λ b. b == carriage_return) xs ≡ false
far_bytes [] h = refl
far_bytes (b ∷ xs) h = either (b == carriage_return) (list_any (λ b. b == carriage_return) xs) (other b (h 0 (omega arith))) (far_bytes xs (λ k n. h (suc k) (omega arith))) where
  other : (b : ℕ) → 128 ≤ b → (b == carriage_return) ≡ false
  other b n = grind (arith, nat_tests)

  either : (a b : Bool) → a ≡ false → b ≡ false → (a || b) ≡ false
  either false false h k = refl
  either true b h k = h
  either false true h k = k

one_char : (c : ℕ) → list_any (λ b. b == carriage_return) (encode_utf8 c) ≡ (c == carriage_return)
one_char c = by_size (cases_lt c 128) where
  or_false : (a : Bool) → (a || false) ≡ a
  or_false true = refl
  or_false false = refl

  other : (c : ℕ) → 128 ≤ c → false ≡ (c == carriage_return)
  other c n = grind (arith, nat_tests)

  below : (k : ℕ) → 128 ≤ c → k < length (encode_utf8 c) → 128 ≤ get_or (encode_utf8 c) k 0
  below k n l = far (cases_lt (get_or (encode_utf8 c) k 0) 128) where
    far : (get_or (encode_utf8 c) k 0 < 128) ⊎ (128 ≤ get_or (encode_utf8 c) k 0) → 128 ≤ get_or (encode_utf8 c) k 0
    far (inl lt) = let e = inside_one c [] (encode_utf8 c) k (sym (append-nil (encode_utf8 c))) l lt in absurd (omega arith)
    far (inr ge) = ge

  by_size : (c < 128) ⊎ (128 ≤ c) → list_any (λ b. b == carriage_return) (encode_utf8 c) ≡ (c == carriage_return)
  by_size (inl lt) = ap (list_any (λ b. b == carriage_return)) (encode_ascii c lt) ∙ or_false (c == carriage_return)
  by_size (inr ge) = far_bytes (encode_utf8 c) (λ k l. below k ge l) ∙ other c ge

returns_same : (cs : List ℕ) → list_any (λ b. b == carriage_return) (encode_utf8_all cs) ≡ list_any (λ c. c == carriage_return) cs
returns_same [] = refl
returns_same (c ∷ cs) =
    list_any-append (λ b. b == carriage_return) (encode_utf8 c) (encode_utf8_all cs)
    ∙ ap (λ x. x || list_any (λ b. b == carriage_return) (encode_utf8_all cs)) (one_char c) ∙ ap (λ x. (c == carriage_return) || x) (returns_same cs)

pub returns_in : (text : List ℕ) → IsUtf8 text → list_any (λ c. c == carriage_return) (chars text) ≡ list_any (λ b. b == carriage_return) text
returns_in text u = sym (returns_same (chars text)) ∙ ap (list_any (λ b. b == carriage_return)) (encodes-chars text u)

-- a text that is its own raw value has none
pub raw_plain : (cs : List ℕ) → raw_value cs ≡ cs → list_any (λ c. c == carriage_return) cs ≡ false
raw_plain cs e = ap (list_any (λ c. c == carriage_return)) (sym e) ∙ raw_none false cs

pub return_found : (text bytes : List ℕ) (r : Bool) → IsUtf8 text → bytes ≡ text → r ≡ list_any (λ b. b == carriage_return) bytes → list_any (λ c. c == carriage_return) (chars text) ≡ r
return_found text bytes r u e f = returns_in text u ∙ ap (list_any (λ b. b == carriage_return)) (sym e) ∙ sym f

pub raw_changes : (text : List ℕ) → list_any (λ c. c == carriage_return) (chars text) ≡ true → raw_value (chars text) ≡ chars text → ⊥
raw_changes text t e = true_false (list_any (λ c. c == carriage_return) (chars text)) t (raw_plain (chars text) e)

pub raw_borrowed : (text : List ℕ) → IsUtf8 text → list_any (λ c. c == carriage_return) (chars text) ≡ false → text ≡ encode_utf8_all (raw_value (chars text))
raw_borrowed text u f = sym (ap encode_utf8_all (raw_same (chars text) f) ∙ encodes-chars text u)

-- the units of the bytes of a raw value
pub raw_units : (text bytes : List ℕ) → IsUtf8 bytes → bytes ≡ encode_utf8_all (raw_value (chars text)) → unescaped (chars bytes) ≡ cooked_value (chars text)
raw_units text bytes u e = ap (λ x. units_behind 0 x) (sym (chars_from_encodes (raw_value (chars text)) bytes u (sym e)))

-- handed in again, a raw value gives the same two
pub settled : (text bytes : List ℕ) → IsUtf8 bytes → bytes ≡ encode_utf8_all (raw_value (chars text)) → IsSettled (chars text) (chars bytes)
settled text bytes u e =
    let q : raw_value (chars text) ≡ chars bytes = chars_from_encodes (raw_value (chars text)) bytes u (sym e) in
    (sym (ap raw_value q) ∙ raw_again (chars text) ∙ q, sym (ap cooked_value q) ∙ cooked_again (chars text))
