-- Words of ASCII, which are their own UTF-8, and lists of words.
use Rattle.std.proofs.Common.{◌≡◌, ℕ, ◌+◌, ◌-◌, ◌<◌, ◌≤◌, Bool, true, false, not, ◌&&◌, ◌||◌, List, [], ◌∷◌, ◌++◌, length, get_or, take, drop, Option, Some, None, if◌then◌else◌, IsTrue, IsFalse, refl, sym, ap, ◌∙◌, subst, arith, append-nil, length-take, length-drop}
use Rattle.std.specs.Prelude.{encode_utf8_all, slice_range, option_map}
use Rattle.std.specs.List.{list_all, take_while}
use Rattle.std.specs.Str.{IsUtf8}
use Rattle.std.proofs.lemmas.Str.{encode_ascii}
use Rattle.std.proofs.lemmas.List.{drop_more, drop_all, take_all, take_more, take-append-drop}
use Rattle.std.proofs.lemmas.Bool.Decides.{nat_tests}
use Rattle.source_text.specs.Source.{IsPlace}
use Rattle.tokens.specs.Alphabet.{one_of, begins_with, is_empty, is_decimal_digit}
use Rattle.tokens.specs.Reading.{behind}
use Rattle.tokens.specs.Scanned.{Passed, IsRun}
use Rattle.tokens.proofs.EscapeParts.{taken_while}
use Rattle.tokens.proofs.PassedCharacters.{passed_slice, passed_on}
use Rattle.tokens.proofs.TriviaSteps.{all_append}
use Rattle.regular_expressions.specs.PropertyNames.{behind_letter, is_met, lists_behind, listed, is_property_character, property_name, is_property_value, is_property_of, is_property}
use Rattle.regular_expressions.specs.Characters.{property_between, property}
use Rattle.regular_expressions.specs.Scanned.{IsRead}
use Rattle.regular_expressions.proofs.Productions.{run_word, run_rest}

-- ---- words of ASCII

pub ascii_word : (test : ℕ → Bool) → ((c : ℕ) → IsTrue (test c) → c < 128) → (w : List ℕ) → IsTrue (list_all test w) → encode_utf8_all w ≡ w
ascii_word test small [] h = refl
ascii_word test small (c ∷ w) h =
    ap (λ x. x ++ encode_utf8_all w) (encode_ascii c (small c (first (test c) (list_all test w) h))) ∙ ap (λ x. c ∷ x) (ascii_word test small w (second (test c) (list_all test w) h)) where
      first : (a b : Bool) → IsTrue (a && b) → IsTrue a
      first a b h = grind (arith, nat_tests)

      second : (a b : Bool) → IsTrue (a && b) → IsTrue b
      second a b h = grind (arith, nat_tests)

pub digit_is_ascii : (c : ℕ) → IsTrue (is_decimal_digit c) → c < 128
digit_is_ascii c h = grind (arith, nat_tests)

pub property_is_ascii : (c : ℕ) → IsTrue (is_property_character c) → c < 128
property_is_ascii c h = grind (arith, nat_tests)

-- the bytes of a run of ASCII
pub run_slice : (test : ℕ → Bool) → ((c : ℕ) → IsTrue (test c) → c < 128) → (text : List ℕ) (at stop : ℕ) → IsUtf8 text → IsPlace text at → (h : IsRun test text at stop) →
    slice_range text at stop ≡ h.run.word
run_slice test small text at stop u p h = sym (passed_slice text at stop h.run.word u p h.run.passed) ∙ ascii_word test small h.run.word h.run.all

-- the same of the text's bytes, as the program has them
pub run_part : (test : ℕ → Bool) → ((c : ℕ) → IsTrue (test c) → c < 128) → (text bytes : List ℕ) (at stop : ℕ) → bytes ≡ text → IsUtf8 text → IsPlace text at → (h : IsRun test text at stop) →
    slice_range bytes at stop ≡ h.run.word
run_part test small text bytes at stop e u p h = ap (λ x. slice_range x at stop) e ∙ run_slice test small text at stop u p h

pub run_all : (test : ℕ → Bool) → ((c : ℕ) → IsTrue (test c) → c < 128) → (text bytes : List ℕ) (at stop : ℕ) → bytes ≡ text → IsUtf8 text → IsPlace text at → IsRun test text at stop →
    IsTrue (list_all test (slice_range bytes at stop))
run_all test small text bytes at stop e u p h = subst (λ w. IsTrue (list_all test w)) (sym (run_part test small text bytes at stop e u p h)) h.run.all

-- ---- lists of words

abbrev pub left_of : List ℕ → Option ℕ → Option (List ℕ)
left_of word met = option_map (λ m. drop m word) met

pub record InList (words word : List ℕ) (index : ℕ) (met : Option ℕ) : Type 0 where
  pub same : listed words word ≡ lists_behind word (left_of word met) (drop index words)

pub list_begins : (words word : List ℕ) → InList words word 0 (Some 0)
unfolding listed
list_begins words word = record { same = refl }

pub list_met : (words word : List ℕ) (index : ℕ) (met : Option ℕ) → InList words word index met → index < length words → get_or words index 0 ≡ 0x20 → is_met (left_of word met) ≡ true →
    listed words word ≡ true
list_met words word index met h n e t =
    h.same ∙ ap (λ cs. lists_behind word (left_of word met) cs) (drop_more words index 0 n ∙ ap (λ c. c ∷ drop (index + 1) words) e)
    ∙ ap (λ b. b || lists_behind word (Some word) (drop (index + 1) words)) t

pub list_word : (words word : List ℕ) (index : ℕ) (met : Option ℕ) → InList words word index met → index < length words → get_or words index 0 ≡ 0x20 → is_met (left_of word met) ≡ false →
    InList words word (index + 1) (Some 0)
list_word words word index met h n e t = record {
  same = h.same ∙ ap (λ cs. lists_behind word (left_of word met) cs) (drop_more words index 0 n ∙ ap (λ c. c ∷ drop (index + 1) words) e)
      ∙ ap (λ b. b || lists_behind word (Some word) (drop (index + 1) words)) t;
}

pub list_letter : (words word : List ℕ) (index : ℕ) (met next : Option ℕ) → InList words word index met → index < length words → ¬ (get_or words index 0 ≡ 0x20) →
    left_of word next ≡ behind_letter (get_or words index 0) (left_of word met) → InList words word (index + 1) next
list_letter words word index met next h n e f = record {
  same = h.same ∙ ap (λ cs. lists_behind word (left_of word met) cs) (drop_more words index 0 n)
      ∙ letter (one_of " " (get_or words index 0)) (no_space (get_or words index 0) e)
      ∙ ap (λ o. lists_behind word o (drop (index + 1) words)) (sym f);
} where
  no_space : (c : ℕ) → ¬ (c ≡ 0x20) → one_of " " c ≡ false
  no_space c e = grind (arith, nat_tests)

  letter : (b : Bool) → b ≡ false →
      (if b then is_met (left_of word met) || lists_behind word (Some word) (drop (index + 1) words) else lists_behind word (behind_letter (get_or words index 0) (left_of word met)) (drop (index + 1) words))
      ≡ lists_behind word (behind_letter (get_or words index 0) (left_of word met)) (drop (index + 1) words)
  letter false e = refl
  letter true e = absurd (true_is_false e) where
    true_is_false : true ≡ false → ⊥
    true_is_false e = cc

pub dropped : (m : ℕ) (w : List ℕ) → length w ≤ m → is_empty (drop m w) ≡ true
dropped m w n = ap is_empty (drop_all m w n)

pub not_dropped : (m : ℕ) (w : List ℕ) → m < length w → is_empty (drop m w) ≡ false
not_dropped m w n = ap is_empty (drop_more w m 0 n)

-- ---- what stands before the `=`

abbrev pub is_before : ℕ → Bool
is_before c = not (one_of "=" c)

pub name_found : (w : List ℕ) (i : ℕ) → i < length w → IsTrue (list_all is_before (take i w)) → get_or w i 0 ≡ 0x3D → take i w ≡ property_name w
name_found w i n h e =
    sym (ap (take_while is_before) (sym (take-append-drop i w)) ∙ taken_while is_before (take i w) (drop i w) h (subst (λ x. IsFalse (begins_with is_before x)) (sym (drop_more w i 0 n ∙ ap (λ c. c ∷ drop (i + 1) w) e)) refl))

pub name_whole : (w : List ℕ) (i : ℕ) → length w ≤ i → IsTrue (list_all is_before (take i w)) → take (length w) w ≡ property_name w
name_whole w i n h =
    let e = take_all i w n in
    take_all (length w) w (omega arith) ∙ sym (ap (take_while is_before) (sym (append-nil w)) ∙ taken_while is_before w [] (subst (λ x. IsTrue (list_all is_before x)) e h) refl)

pub name_more : (w : List ℕ) (i : ℕ) → i < length w → IsTrue (list_all is_before (take i w)) → ¬ (get_or w i 0 ≡ 0x3D) → IsTrue (list_all is_before (take (i + 1) w))
name_more w i n h e = subst (λ x. IsTrue (list_all is_before x)) (sym (take_more w i 0 n)) (all_append is_before (take i w) (get_or w i 0 ∷ []) h (one (get_or w i 0) e)) where
  one : (c : ℕ) → ¬ (c ≡ 0x3D) → IsTrue (list_all is_before (c ∷ []))
  one c e = grind (arith, nat_tests)

pub value_begins : (w : List ℕ) (n : ℕ) → take n w ≡ property_name w → n < length w → is_property w ≡ is_property_value (take n w) (take (length w - (n + 1)) (drop (n + 1) w))
value_begins w n e h =
    let k : length (take n w) ≡ n = simp length-take (omega arith) in
    ap (λ x. is_property_of x (drop (length x) w)) (sym e)
    ∙ ap (λ m. is_property_of (take n w) (drop m w)) k
    ∙ ap (is_property_of (take n w)) (drop_more w n 0 h)
    ∙ ap (is_property_value (take n w)) (sym (take_all (length w - (n + 1)) (drop (n + 1) w) (simp length-drop (omega arith))))

-- ---- `{`, a property and `}`

property_as : (text : List ℕ) (at more stop : ℕ) → Passed text at more (0x7B ∷ []) → (h : IsRun is_property_character text more stop) →
    property (behind text at) ≡ property_between h.run.word (behind text stop)
property_as text at more stop p h =
    ap property p.split
    ∙ ap (λ rest. property_between (take_while is_property_character (behind text more)) rest) (run_rest is_property_character text more stop h)
    ∙ ap (λ w. property_between w (behind text stop)) (run_word is_property_character text more stop h)

pub property_open : (text : List ℕ) (at more stop : ℕ) → Passed text at more (0x7B ∷ []) → IsRun is_property_character text more stop → behind text stop ≡ [] → property (behind text at) ≡ None
property_open text at more stop p h e = property_as text at more stop p h ∙ ap (λ cs. property_between h.run.word cs) e

pub property_other : (text : List ℕ) (at more stop end c : ℕ) → Passed text at more (0x7B ∷ []) → IsRun is_property_character text more stop → Passed text stop end (c ∷ []) → ¬ (c ≡ 0x7D) →
    property (behind text at) ≡ None
property_other text at more stop end c p h q n =
    property_as text at more stop p h ∙ ap (λ cs. property_between h.run.word cs) q.split
    ∙ ap (λ b. if b && is_property h.run.word then Some (None, behind text end) else None) (no_brace c n) where
      no_brace : (c : ℕ) → ¬ (c ≡ 0x7D) → one_of "}" c ≡ false
      no_brace c n = grind (arith, nat_tests)

pub property_unknown : (text part : List ℕ) (at more stop end : ℕ) → Passed text at more (0x7B ∷ []) → (h : IsRun is_property_character text more stop) → Passed text stop end (0x7D ∷ []) →
    part ≡ h.run.word → is_property part ≡ false → property (behind text at) ≡ None
property_unknown text part at more stop end p h q s e =
    property_as text at more stop p h ∙ ap (λ cs. property_between h.run.word cs) q.split
    ∙ ap (λ b. if b then Some (None, behind text end) else None) (ap is_property (sym s) ∙ e)

pub property_known : (text part : List ℕ) (at more stop end : ℕ) → Passed text at more (0x7B ∷ []) → (h : IsRun is_property_character text more stop) → Passed text stop end (0x7D ∷ []) →
    part ≡ h.run.word → is_property part ≡ true → IsRead (property (behind text at)) None text at end
property_known text part at more stop end p h q s e = record {
  word = 0x7B ∷ (h.run.word ++ 0x7D ∷ []);
  passed = passed_on text at more end (0x7B ∷ []) (h.run.word ++ 0x7D ∷ []) p (passed_on text more stop end h.run.word (0x7D ∷ []) h.run.passed q);
  found = property_as text at more stop p h ∙ ap (λ cs. property_between h.run.word cs) q.split
      ∙ ap (λ b. if b then Some (None, behind text end) else None) (ap is_property (sym s) ∙ e);
}
