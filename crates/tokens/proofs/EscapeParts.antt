-- Escapes, part by part.
use Rattle.std.proofs.Common.{◌≡◌, ℕ, zero, suc, ◌+◌, ◌*◌, ◌<◌, ◌≤◌, Bool, true, false, not, ◌&&◌, ◌==◌, List, [], ◌∷◌, ◌++◌, length, take, drop, Option, Some, None, min, nat_le, ltb, if◌then◌else◌, IsTrue, IsFalse, refl, sym, ap, ◌∙◌, subst, arith, inl, inr, ◌⊎◌}
use Rattle.std.specs.List.{list_all, take_while}
use Rattle.std.specs.Char.{digit_value}
use Rattle.std.specs.Char.Escape.{encode_utf16}
use Rattle.std.proofs.lemmas.Bool.{cond-true, lt-ltb}
use Rattle.std.proofs.lemmas.Bool.Decides.{nat_tests}
use Rattle.std.proofs.lemmas.List.{take_at, drop_at, length_push}
use Rattle.std.proofs.lemmas.List.Sums.{take_while-cons}
use Rattle.std.proofs.lemmas.Str.{length-le-encodes}
use Rattle.source_text.specs.Source.{IsPlace}
use Rattle.source_text.specs.Lines.{is_line_terminator}
use Rattle.tokens.specs.Alphabet.{one_of, begins_with, is_empty, is_hex_digit}
use Rattle.tokens.specs.declared.escape.Escaped.{Escaped as Found}
use Rattle.tokens.specs.Escapes.{Piece, hex_value, fixed_escape, code_point_escape, unicode_escape, escape}
use Rattle.tokens.specs.Escaped.{units_of, IsPieceAt}
use Rattle.tokens.specs.Reading.{behind}
use Rattle.tokens.specs.Scanned.{Passed}
use Rattle.tokens.proofs.Beginnings.{true_false}
use Rattle.tokens.proofs.PassedCharacters.{passed_none, passed_on}
use Rattle.tokens.proofs.TriviaSteps.{all_append}

-- ---- the value of digits

pub hex_value_push : (before : ℕ) (cs : List ℕ) (c : ℕ) → hex_value before (cs ++ c ∷ []) ≡ 16 * hex_value before cs + digit_value c
hex_value_push before [] c = refl
hex_value_push before (d ∷ cs) c = hex_value_push (16 * before + digit_value d) cs c

pub hex_digit_small : (c : ℕ) → IsTrue (is_hex_digit c) → digit_value c < 16
hex_digit_small c h = grind (arith, nat_tests)

pub four_digits_small : (cs : List ℕ) → IsTrue (list_all is_hex_digit cs) → length cs ≤ 4 → hex_value 0 cs < 0x1_0000
four_digits_small [] h n = omega arith
four_digits_small (a ∷ []) h n = let x = first (is_hex_digit a) true h in let i = hex_digit_small a x in omega arith where
  first : (a b : Bool) → IsTrue (a && b) → IsTrue a
  first a b h = grind (arith, nat_tests)
four_digits_small (a ∷ b ∷ []) h n = let i = hex_digit_small a (one (is_hex_digit a) (is_hex_digit b) h) in let j = hex_digit_small b (two (is_hex_digit a) (is_hex_digit b) h) in omega arith where
  one : (a b : Bool) → IsTrue (a && (b && true)) → IsTrue a
  one a b h = grind (arith, nat_tests)

  two : (a b : Bool) → IsTrue (a && (b && true)) → IsTrue b
  two a b h = grind (arith, nat_tests)
four_digits_small (a ∷ b ∷ c ∷ []) h n =
    let i = hex_digit_small a (one (is_hex_digit a) (is_hex_digit b) (is_hex_digit c) h) in let j = hex_digit_small b (two (is_hex_digit a) (is_hex_digit b) (is_hex_digit c) h) in
    let k = hex_digit_small c (three (is_hex_digit a) (is_hex_digit b) (is_hex_digit c) h) in omega arith where
      one : (a b c : Bool) → IsTrue (a && (b && (c && true))) → IsTrue a
      one a b c h = grind (arith, nat_tests)

      two : (a b c : Bool) → IsTrue (a && (b && (c && true))) → IsTrue b
      two a b c h = grind (arith, nat_tests)

      three : (a b c : Bool) → IsTrue (a && (b && (c && true))) → IsTrue c
      three a b c h = grind (arith, nat_tests)
four_digits_small (a ∷ b ∷ c ∷ d ∷ []) h n =
    let i = hex_digit_small a (one (is_hex_digit a) (is_hex_digit b) (is_hex_digit c) (is_hex_digit d) h) in let j = hex_digit_small b (two (is_hex_digit a) (is_hex_digit b) (is_hex_digit c) (is_hex_digit d) h) in
    let k = hex_digit_small c (three (is_hex_digit a) (is_hex_digit b) (is_hex_digit c) (is_hex_digit d) h) in let l = hex_digit_small d (four (is_hex_digit a) (is_hex_digit b) (is_hex_digit c) (is_hex_digit d) h) in
    omega arith where
      one : (a b c d : Bool) → IsTrue (a && (b && (c && (d && true)))) → IsTrue a
      one a b c d h = grind (arith, nat_tests)

      two : (a b c d : Bool) → IsTrue (a && (b && (c && (d && true)))) → IsTrue b
      two a b c d h = grind (arith, nat_tests)

      three : (a b c d : Bool) → IsTrue (a && (b && (c && (d && true)))) → IsTrue c
      three a b c d h = grind (arith, nat_tests)

      four : (a b c d : Bool) → IsTrue (a && (b && (c && (d && true)))) → IsTrue d
      four a b c d h = grind (arith, nat_tests)
four_digits_small (a ∷ b ∷ c ∷ d ∷ e ∷ cs) h n = absurd (omega arith)

pub one_unit : (c : ℕ) → c < 0x1_0000 → encode_utf16 c ≡ c ∷ []
one_unit c h = cond-true (ltb c 0x1_0000) _ _ (lt-ltb c 0x1_0000 h)

-- hexadecimal digits from a place to another, and their number
pub record HexDigits (text : List ℕ) (at stop : ℕ) : Type 0 where
  pub word : List ℕ
  pub passed : Passed text at stop word
  pub all : IsTrue (list_all is_hex_digit word)

-- so many of them with this value
pub record HasDigits (text : List ℕ) (at stop count value : ℕ) : Type 0 where
  pub digits : HexDigits text at stop
  pub counted : length digits.word ≡ count
  pub valued : hex_value 0 digits.word ≡ value

pub digits_begin : (text : List ℕ) (at : ℕ) → IsPlace text at → HasDigits text at at 0 0
digits_begin text at p = record { digits = record { word = []; passed = passed_none text at p; all = refl }; counted = refl; valued = refl }

pub digits_go_on : (text : List ℕ) (at stop more c count value digit : ℕ) → HasDigits text at stop count value → Passed text stop more (c ∷ []) → IsTrue (is_hex_digit c) → digit ≡ digit_value c →
    HasDigits text at more (count + 1) (value * 16 + digit)
digits_go_on text at stop more c count value digit h p t e =
    let word = h.digits.word in
    let n = h.counted in
    let v = h.valued in
    let push = hex_value_push 0 word c in
    let long = length_push word c in
    record {
      digits = record {
        word = word ++ c ∷ [];
        passed = passed_on text at stop more word (c ∷ []) h.digits.passed p;
        all = all_append is_hex_digit word (c ∷ []) h.digits.all (one (is_hex_digit c) t);
      };
      counted = omega arith;
      valued = omega arith;
    } where
      one : (a : Bool) → IsTrue a → IsTrue (a && true)
      one true h = refl
      one false h = h

-- ---- a fixed number of digits

abbrev fixed_is : Bool → Bool → ℕ → ℕ → Option Piece
fixed_is a b count x = if a && b then Some (record { more = count + 1; units = x ∷ [] }) else None

pub digits_small : (text : List ℕ) (at stop count value : ℕ) → HasDigits text at stop count value → count ≤ 4 → value < 0x1_0000
digits_small text at stop count value h n =
    let m = h.counted in let v = h.valued in let small = four_digits_small h.digits.word h.digits.all (omega arith) in omega arith

pub taken_fails : (test : ℕ → Bool) (count : ℕ) (word rest : List ℕ) (c : ℕ) → length word < count → IsFalse (test c) → IsFalse (list_all test (take count (word ++ c ∷ rest)))
taken_fails test zero word rest c n t = absurd (omega arith)
taken_fails test (suc count) [] rest c n t = first (test c) (list_all test (take count rest)) t where
  first : (a b : Bool) → IsFalse a → IsFalse (a && b)
  first a b h = grind (arith, nat_tests)
taken_fails test (suc count) (d ∷ word) rest c n t = second (test d) (list_all test (take count (word ++ c ∷ rest))) (taken_fails test count word rest c (omega arith) t) where
  second : (a b : Bool) → IsFalse b → IsFalse (a && b)
  second a b h = grind (arith, nat_tests)

pub fixed_some : (text : List ℕ) (at stop count value : ℕ) → HasDigits text at stop count value → count ≤ 4 →
    IsPieceAt (fixed_escape count (behind text at)) 1 text at (record { end = stop; value = Some value })
fixed_some text at stop count value h few =
    let word = h.digits.word in
    let small : hex_value 0 word < 0x1_0000 = four_digits_small word h.digits.all (omega arith) in
    let v = h.valued in
    let e : take count (behind text at) ≡ word = ap (take count) h.digits.passed.split ∙ take_at word (behind text stop) count h.counted in
    record {
      word = word;
      passed = h.digits.passed;
      is = ap (λ w. chosen count w) e ∙ is_chosen (length word == count) (list_all is_hex_digit word) count (length word) (hex_value 0 word) value (same (length word) count h.counted) h.digits.all h.counted v small;
      code_point = omega arith;
    } where
      chosen : ℕ → List ℕ → Option Piece
      chosen count w = fixed_is (length w == count) (list_all is_hex_digit w) count (hex_value 0 w)

      same : (a b : ℕ) → a ≡ b → IsTrue (a == b)
      same a b e = grind (arith, nat_tests)

      is_chosen : (a b : Bool) (count size x value : ℕ) → IsTrue a → IsTrue b → size ≡ count → x ≡ value → x < 0x1_0000 →
          fixed_is a b count x ≡ Some (record { more = size + 1; units = units_of (Some value) })
      is_chosen true true count size x value h k e f n =
          let one = one_unit value (omega arith) in cc
      is_chosen true false count size x value h k e f n = absurd (true_false _ k refl)
      is_chosen false b count size x value h k e f n = absurd (true_false _ h refl)

pub fixed_stops : (text : List ℕ) (at stop more c count value all : ℕ) → HasDigits text at stop count value → count < all → Passed text stop more (c ∷ []) → IsFalse (is_hex_digit c) →
    fixed_escape all (behind text at) ≡ None
fixed_stops text at stop more c count value all h n p t =
    let word = h.digits.word in
    let m = h.counted in
    let e : behind text at ≡ word ++ c ∷ behind text more = h.digits.passed.split ∙ ap (λ x. word ++ x) p.split in
    let f : IsFalse (list_all is_hex_digit (take all (behind text at))) = subst (λ x. IsFalse (list_all is_hex_digit (take all x))) (sym e) (taken_fails is_hex_digit all word (behind text more) c (omega arith) t) in
    none (length (take all (behind text at)) == all) (list_all is_hex_digit (take all (behind text at))) all (hex_value 0 (take all (behind text at))) f where
      none : (a b : Bool) (count x : ℕ) → IsFalse b → fixed_is a b count x ≡ None
      none true true count x h = absurd (true_false _ refl h)
      none true false count x h = refl
      none false b count x h = refl

-- ---- digits in braces

-- digits so far, whose value is counted up to 0x110000 alone
pub record InDigits (text : List ℕ) (at stop value : ℕ) : Type 0 where
  pub digits : HexDigits text at stop
  pub valued : min (hex_value 0 digits.word) 0x11_0000 ≡ value

pub in_digits_begin : (text : List ℕ) (at : ℕ) → IsPlace text at → InDigits text at at 0
in_digits_begin text at p = record { digits = record { word = []; passed = passed_none text at p; all = refl }; valued = refl }

pub in_digits_go_on : (text : List ℕ) (at stop more c value digit : ℕ) → InDigits text at stop value → Passed text stop more (c ∷ []) → IsTrue (is_hex_digit c) → digit ≡ digit_value c →
    InDigits text at more (min (value * 16 + digit) 0x11_0000)
in_digits_go_on text at stop more c value digit h p t e =
    let word = h.digits.word in
    let v = h.valued in
    let push = hex_value_push 0 word c in
    record {
      digits = record {
        word = word ++ c ∷ [];
        passed = passed_on text at stop more word (c ∷ []) h.digits.passed p;
        all = all_append is_hex_digit word (c ∷ []) h.digits.all (one (is_hex_digit c) t);
      };
      valued = omega arith;
    } where
      one : (a : Bool) → IsTrue a → IsTrue (a && true)
      one true h = refl
      one false h = h

-- the digits are all that stand there
pub taken_while : (test : ℕ → Bool) (word rest : List ℕ) → IsTrue (list_all test word) → IsFalse (begins_with test rest) → take_while test (word ++ rest) ≡ word
taken_while test [] [] h t = refl
taken_while test [] (c ∷ rest) h t = take_while-cons test c rest ∙ stops (test c) t where
  stops : (a : Bool) → IsFalse a → (if a then c ∷ take_while test rest else []) ≡ []
  stops true t = absurd (true_false _ refl t)
  stops false t = refl
taken_while test (c ∷ word) rest h t = take_while-cons test c (word ++ rest) ∙ goes_on (test c) h (λ k. taken_while test word rest k t) where
  goes_on : (a : Bool) → IsTrue (a && list_all test word) → (IsTrue (list_all test word) → take_while test (word ++ rest) ≡ word) →
      (if a then c ∷ take_while test (word ++ rest) else []) ≡ c ∷ word
  goes_on true h f = ap (λ x. c ∷ x) (f h)
  goes_on false h f = absurd (true_false _ h refl)

-- digits from a place to another, where no more follow
pub record AllDigits (text : List ℕ) (at stop value : ℕ) : Type 0 where
  pub so_far : InDigits text at stop value
  pub ends : IsFalse (begins_with is_hex_digit (behind text stop))

pub digits_stop : (text : List ℕ) (at stop more c value : ℕ) → InDigits text at stop value → Passed text stop more (c ∷ []) → IsFalse (is_hex_digit c) → AllDigits text at stop value
digits_stop text at stop more c value h p t = record { so_far = h; ends = subst (λ x. IsFalse (begins_with is_hex_digit x)) (sym p.split) t }

pub digits_end : (text : List ℕ) (at stop value : ℕ) → InDigits text at stop value → behind text stop ≡ [] → AllDigits text at stop value
digits_end text at stop value h e = record { so_far = h; ends = subst (λ x. IsFalse (begins_with is_hex_digit x)) (sym e) refl }

pub braced : (text : List ℕ) (at stop value : ℕ) (h : AllDigits text at stop value) →
    unicode_escape (0x7B ∷ behind text at) ≡ code_point_escape h.so_far.digits.word (behind text stop)
braced text at stop value h =
    let word = h.so_far.digits.word in
    let e : take_while is_hex_digit (behind text at) ≡ word = ap (take_while is_hex_digit) h.so_far.digits.passed.split ∙ taken_while is_hex_digit word (behind text stop) h.so_far.digits.all h.ends in
    ap (λ w. code_point_escape w (drop (length w) (behind text at))) e
    ∙ ap (code_point_escape word) (ap (drop (length word)) h.so_far.digits.passed.split ∙ drop_at word (behind text stop) (length word) refl)

abbrev braced_is : Bool → Bool → Bool → ℕ → ℕ → Option Piece
braced_is a b d size x = if not a && b && d then Some (record { more = size + 3; units = encode_utf16 x }) else None

-- none of them
pub braced_empty : (text : List ℕ) (at value : ℕ) → AllDigits text at at value → unicode_escape (0x7B ∷ behind text at) ≡ None
braced_empty text at value h =
    let word = h.so_far.digits.word in
    let r = h.so_far.digits.passed.reaches in
    let n = length-le-encodes word in
    braced text at at value h ∙ none (is_empty word) (nat_le (hex_value 0 word) 0x10_FFFF) (begins_with (one_of "}") (behind text at)) (length word) (hex_value 0 word) (empty word (omega arith)) where
      empty : (w : List ℕ) → length w ≤ 0 → IsTrue (is_empty w)
      empty [] n = refl
      empty (c ∷ w) n = absurd (omega arith)

      none : (a b d : Bool) (size x : ℕ) → IsTrue a → braced_is a b d size x ≡ None
      none true b d size x h = refl
      none false b d size x h = absurd (true_false _ h refl)

-- a value that is no code point
pub braced_large : (text : List ℕ) (at stop value : ℕ) → AllDigits text at stop value → 0x10_FFFF < value → unicode_escape (0x7B ∷ behind text at) ≡ None
braced_large text at stop value h n =
    let word = h.so_far.digits.word in
    let v = h.so_far.valued in
    braced text at stop value h
    ∙ none (is_empty word) (nat_le (hex_value 0 word) 0x10_FFFF) (begins_with (one_of "}") (behind text stop)) (length word) (hex_value 0 word) (large (hex_value 0 word) (omega arith)) where
      large : (x : ℕ) → 0x10_FFFF < x → IsFalse (nat_le x 0x10_FFFF)
      large x n = grind (arith, nat_tests)

      none : (a b d : Bool) (size x : ℕ) → IsFalse b → braced_is a b d size x ≡ None
      none a true d size x h = absurd (true_false _ refl h)
      none true false d size x h = refl
      none false false d size x h = refl

-- no brace behind them
pub braced_open : (text : List ℕ) (at stop value : ℕ) → AllDigits text at stop value → IsFalse (begins_with (one_of "}") (behind text stop)) → unicode_escape (0x7B ∷ behind text at) ≡ None
braced_open text at stop value h t =
    let word = h.so_far.digits.word in
    braced text at stop value h
    ∙ none (is_empty word) (nat_le (hex_value 0 word) 0x10_FFFF) (begins_with (one_of "}") (behind text stop)) (length word) (hex_value 0 word) t where
      none : (a b d : Bool) (size x : ℕ) → IsFalse d → braced_is a b d size x ≡ None
      none a b true size x h = absurd (true_false _ refl h)
      none true b false size x h = refl
      none false true false size x h = refl
      none false false false size x h = refl

-- a code point
pub braced_closed : (text : List ℕ) (at stop more value : ℕ) → AllDigits text at stop value → ¬ (stop ≡ at) → value ≤ 0x10_FFFF → Passed text stop more (0x7D ∷ []) →
    IsPieceAt (unicode_escape (0x7B ∷ behind text at)) 2 text at (record { end = more; value = Some value })
braced_closed text at stop more value h n m p =
    let word = h.so_far.digits.word in
    let v = h.so_far.valued in
    let same : hex_value 0 word ≡ value = omega arith in
    let long = length_push word 0x7D in
    record {
      word = word ++ 0x7D ∷ [];
      passed = passed_on text at stop more word (0x7D ∷ []) h.so_far.digits.passed p;
      is = braced text at stop value h
          ∙ some (is_empty word) (nat_le (hex_value 0 word) 0x10_FFFF) (begins_with (one_of "}") (behind text stop)) (length word) (length (word ++ 0x7D ∷ [])) (hex_value 0 word) value
          (not_empty word h.so_far.digits.passed) (fits (hex_value 0 word) (omega arith)) (subst (λ x. IsTrue (begins_with (one_of "}") x)) (sym p.split) refl) (omega arith) same;
      code_point = omega arith;
    } where
      not_empty : (w : List ℕ) → Passed text at stop w → IsFalse (is_empty w)
      not_empty [] q = let r = q.reaches in absurd (n (omega arith))
      not_empty (c ∷ w) q = refl

      fits : (x : ℕ) → x ≤ 0x10_FFFF → IsTrue (nat_le x 0x10_FFFF)
      fits x n = grind (arith, nat_tests)

      some : (a b d : Bool) (size all x value : ℕ) → IsFalse a → IsTrue b → IsTrue d → size + 3 ≡ all + 2 → x ≡ value →
          braced_is a b d size x ≡ Some (record { more = all + 2; units = units_of (Some value) })
      some false true true size all x value h k l e f = cc
      some true b d size all x value h k l e f = absurd (true_false _ refl h)
      some false false d size all x value h k l e f = absurd (true_false _ k refl)
      some false true false size all x value h k l e f = absurd (true_false _ l refl)

-- ---- one character more in front

pub piece_behind : (wide near : Option Piece) (before : ℕ) (text : List ℕ) (at stop c : ℕ) (found : Found) → Passed text at stop (c ∷ []) → wide ≡ near →
    IsPieceAt near (before + 1) text stop found → IsPieceAt wide before text at found
piece_behind wide near before text at stop c found p e h =
    let word = h.word in
    let n : length word + (before + 1) ≡ length (c ∷ word) + before = omega arith in
    record {
      word = c ∷ word;
      passed = passed_on text at stop found.end (c ∷ []) word p h.passed;
      is = e ∙ h.is ∙ ap (λ m. Some (record { more = m; units = units_of found.value })) n;
      code_point = h.code_point;
    }

-- ---- line ends behind a backslash

terminators : (c : ℕ) → IsTrue (is_line_terminator c) → (c ≡ 0xD) ⊎ ((c ≡ 0xA) ⊎ ((c ≡ 0x2028) ⊎ (c ≡ 0x2029)))
terminators c h = grind (arith, nat_tests)

pub line_single : (text : List ℕ) (at c : ℕ) → IsPlace text at → IsTrue (is_line_terminator c) → (c ≡ 0xD → IsFalse (begins_with (λ d. d == 0xA) (behind text at))) →
    IsPieceAt (escape (c ∷ behind text at)) 1 text at (record { end = at; value = None })
line_single text at c p h t = record { word = []; passed = passed_none text at p; is = is (terminators c h); code_point = tt } where
  single : Option Piece
  single = Some (record { more = 1; units = [] })

  return_alone : (a : Bool) → IsFalse a → (if a then Some (record { more = 2; units = [] }) else single) ≡ single
  return_alone true t = absurd (true_false _ refl t)
  return_alone false t = refl

  is : (c ≡ 0xD) ⊎ ((c ≡ 0xA) ⊎ ((c ≡ 0x2028) ⊎ (c ≡ 0x2029))) → escape (c ∷ behind text at) ≡ single
  is (inl e) = ap (λ x. escape (x ∷ behind text at)) e ∙ return_alone (begins_with (λ d. d == 0xA) (behind text at)) (t e)
  is (inr (inl e)) = ap (λ x. escape (x ∷ behind text at)) e
  is (inr (inr (inl e))) = ap (λ x. escape (x ∷ behind text at)) e
  is (inr (inr (inr e))) = ap (λ x. escape (x ∷ behind text at)) e
