-- Productions that are read from one place to another.
use Rattle.std.proofs.Common.{◌≡◌, ℕ, ◌-◌, ◌≤◌, Bool, true, false, ◌||◌, List, [], ◌∷◌, ◌++◌, length, drop, Option, Some, None, if◌then◌else◌, nat_le, IfSome, IfNone, refl, sym, ap, ◌∙◌, arith, length-append}
use Rattle.std.specs.Prelude.{slice_range}
use Rattle.std.specs.List.{take_while}
use Rattle.std.specs.Str.{chars, IsUtf8}
use Rattle.std.proofs.lemmas.Str.{chars_from_encodes, IsUtf8-between, length-le-encodes}
use Rattle.std.proofs.lemmas.List.{drop_at}
use Rattle.source_text.specs.Source.{IsPlace}
use Rattle.tokens.specs.Alphabet.{is_empty, is_decimal_digit}
use Rattle.tokens.specs.Reading.{behind}
use Rattle.tokens.specs.Scanned.{Passed, IsRun}
use Rattle.tokens.proofs.EscapeParts.{taken_while}
use Rattle.tokens.proofs.PassedCharacters.{passed_on, passed_ordered, passed_slice}
use Rattle.regular_expressions.specs.Terms.{behind_lazy, behind_digits, decimal_value, closed_count, most, least, counted}
use Rattle.regular_expressions.specs.Scanned.{IsRead, IsPassed, IsEnd}

-- ---- one character more in front

pub read_behind : {A : Type 0} (wide near : Option (A × List ℕ)) (value : A) (text : List ℕ) (at stop end c : ℕ) → Passed text at stop (c ∷ []) → wide ≡ near →
    IsRead near value text stop end → IsRead wide value text at end
read_behind wide near value text at stop end c p e h = record {
  word = c ∷ h.word;
  passed = passed_on text at stop end (c ∷ []) h.word p h.passed;
  found = e ∙ h.found;
}

-- what stands behind a word, as another function read it
pub passed_through : (wide near : Option (List ℕ)) (text : List ℕ) (at mid : ℕ) (word : List ℕ) (o : Option ℕ) → Passed text at mid word → wide ≡ near →
    IfSome o (λ end. IsPassed near text mid end) → IfSome o (λ end. IsPassed wide text at end)
passed_through wide near text at mid word None p e h = tt
passed_through wide near text at mid word (Some end) p e h = record {
  word = word ++ h.word;
  passed = passed_on text at mid end word h.word p h.passed;
  found = e ∙ h.found;
}

pub none_through : {A B : Type 0} (wide near : Option A) (o : Option B) → wide ≡ near → IfNone o (near ≡ None) → IfNone o (wide ≡ None)
none_through wide near None e h = e ∙ h
none_through wide near (Some x) e h = tt

-- ---- runs

pub run_word : (test : ℕ → Bool) (text : List ℕ) (at stop : ℕ) (h : IsRun test text at stop) → take_while test (behind text at) ≡ h.run.word
run_word test text at stop h = ap (take_while test) h.run.passed.split ∙ taken_while test h.run.word (behind text stop) h.run.all h.ends

pub run_rest : (test : ℕ → Bool) (text : List ℕ) (at stop : ℕ) → IsRun test text at stop → drop (length (take_while test (behind text at))) (behind text at) ≡ behind text stop
run_rest test text at stop h =
    ap (λ w. drop (length w) (behind text at)) (run_word test text at stop h)
    ∙ ap (drop (length h.run.word)) h.run.passed.split
    ∙ drop_at h.run.word (behind text stop) (length h.run.word) refl

pub run_empty : (test : ℕ → Bool) (text : List ℕ) (at stop : ℕ) (h : IsRun test text at stop) → stop ≡ at → is_empty h.run.word ≡ true
run_empty test text at stop h e =
    let r = h.run.passed.reaches in
    let n = length-le-encodes h.run.word in
    empty h.run.word (omega arith) where
      empty : (w : List ℕ) → length w ≤ 0 → is_empty w ≡ true
      empty [] n = refl
      empty (c ∷ w) n = absurd (omega arith)

pub run_not_empty : (test : ℕ → Bool) (text : List ℕ) (at stop : ℕ) (h : IsRun test text at stop) → ¬ (stop ≡ at) → is_empty h.run.word ≡ false
run_not_empty test text at stop h n = of h.run.word h.run.passed where
  of : (w : List ℕ) → Passed text at stop w → is_empty w ≡ false
  of [] q = let r = q.reaches in absurd (n (omega arith))
  of (c ∷ w) q = refl

-- ---- the characters of a part

pub passed_chars : (text : List ℕ) (at stop : ℕ) (word : List ℕ) → IsUtf8 text → IsPlace text at → Passed text at stop word → chars (slice_range text at stop) ≡ word
passed_chars text at stop word u p h =
    sym (chars_from_encodes word (slice_range text at stop) (IsUtf8-between text at stop u (passed_ordered text at stop word h) p h.place) (passed_slice text at stop word u p h))

-- ---- how many characters were read

pub left_behind : (word rest : List ℕ) → length (word ++ rest) - length rest ≡ length word
left_behind word rest = let n = length-append word rest in omega arith

pub read_length : (text : List ℕ) (at stop : ℕ) (word : List ℕ) → Passed text at stop word → length (behind text at) - length (behind text stop) ≡ length word
read_length text at stop word p = ap (λ cs. length cs - length (behind text stop)) p.split ∙ left_behind word (behind text stop)

-- ---- numbers of a count

pub most_as : (text low : List ℕ) (at stop : ℕ) (is_good : Bool) (h : IsRun is_decimal_digit text at stop) →
    is_good ≡ (is_empty h.run.word || nat_le (decimal_value 0 low) (decimal_value 0 h.run.word)) → most low (behind text at) ≡ closed_count is_good (behind text stop)
most_as text low at stop is_good h e =
    ap (λ w. closed_count (is_empty w || nat_le (decimal_value 0 low) (decimal_value 0 w)) (behind_digits (behind text at))) (run_word is_decimal_digit text at stop h)
    ∙ ap (λ b. closed_count b (behind_digits (behind text at))) (sym e)
    ∙ ap (closed_count is_good) (run_rest is_decimal_digit text at stop h)

pub most_open : (text low : List ℕ) (at stop : ℕ) → IsRun is_decimal_digit text at stop → stop ≡ at → most low (behind text at) ≡ closed_count true (behind text stop)
most_open text low at stop h e =
    most_as text low at stop true h (sym (ap (λ b. b || nat_le (decimal_value 0 low) (decimal_value 0 h.run.word)) (run_empty is_decimal_digit text at stop h e)))

pub most_ordered : (text low part : List ℕ) (at stop : ℕ) (is_good : Bool) (h : IsRun is_decimal_digit text at stop) → ¬ (stop ≡ at) → part ≡ h.run.word →
    is_good ≡ nat_le (decimal_value 0 low) (decimal_value 0 part) → most low (behind text at) ≡ closed_count is_good (behind text stop)
most_ordered text low part at stop is_good h n s e =
    most_as text low at stop is_good h
    (e ∙ ap (λ w. nat_le (decimal_value 0 low) (decimal_value 0 w)) s
    ∙ sym (ap (λ b. b || nat_le (decimal_value 0 low) (decimal_value 0 h.run.word)) (run_not_empty is_decimal_digit text at stop h n)))

pub counted_as : (text part : List ℕ) (at stop : ℕ) (h : IsRun is_decimal_digit text at stop) → ¬ (stop ≡ at) → part ≡ h.run.word →
    counted (behind text at) ≡ least part (behind text stop)
counted_as text part at stop h n s =
    ap (λ w. if is_empty w then None else least w (behind_digits (behind text at))) (run_word is_decimal_digit text at stop h)
    ∙ ap (λ b. if b then None else least h.run.word (behind_digits (behind text at))) (run_not_empty is_decimal_digit text at stop h n)
    ∙ ap (least h.run.word) (run_rest is_decimal_digit text at stop h)
    ∙ ap (λ w. least w (behind text stop)) (sym s)

-- ---- the end of a count

pub closed_some : (text : List ℕ) (at stop end : ℕ) (is_good : Bool) → Passed text at stop (0x7D ∷ []) → is_good ≡ true → IsEnd behind_lazy text stop end →
    IsPassed (closed_count is_good (behind text at)) text at end
closed_some text at stop end is_good p e h = record {
  word = 0x7D ∷ h.word;
  passed = passed_on text at stop end (0x7D ∷ []) h.word p h.passed;
  found = ap (λ b. closed_count b (behind text at)) e ∙ ap (λ cs. closed_count true cs) p.split ∙ ap (λ r. Some r) h.found;
}
