-- Hexadecimal digits and escapes, part by part.
use Rattle.std.proofs.Common.{◌≡◌, ℕ, zero, suc, ◌+◌, ◌*◌, ◌-◌, ◌<◌, ◌≤◌, Bool, true, false, not, ◌&&◌, ◌==◌, List, [], ◌∷◌, ◌++◌, length, take, drop, Option, Some, None, nat_le, if◌then◌else◌, IsTrue, IsFalse, refl, sym, ap, ◌∙◌, subst, arith}
use Rattle.std.specs.List.{list_all, take_while}
use Rattle.std.proofs.lemmas.Bool.Decides.{nat_tests}
use Rattle.std.proofs.lemmas.List.{take_at, drop_at}
use Rattle.std.proofs.lemmas.Str.{length-le-encodes}
use Rattle.tokens.specs.Alphabet.{one_of, begins_with, is_empty, is_hex_digit}
use Rattle.tokens.specs.Escapes.{hex_value}
use Rattle.tokens.specs.Reading.{behind}
use Rattle.tokens.specs.Scanned.{Passed}
use Rattle.tokens.proofs.Beginnings.{true_false}
use Rattle.tokens.proofs.EscapeParts.{HasDigits, AllDigits, taken_fails, taken_while}
use Rattle.tokens.proofs.PassedCharacters.{passed_on}
use Rattle.regular_expressions.specs.Characters.{Number, hex_digits, is_lead, is_trail, only_trail, trail, paired, unit, code_point, braced}
use Rattle.regular_expressions.specs.Scanned.{IsRead}

-- ---- a fixed number of digits

abbrev counted_is : Bool → Bool → ℕ → List ℕ → Option Number
counted_is a b x rest = if a && b then Some (x, rest) else None

pub hex_some : (text : List ℕ) (at stop count value : ℕ) → HasDigits text at stop count value → IsRead (hex_digits count (behind text at)) value text at stop
hex_some text at stop count value h =
    let word = h.digits.word in
    let rest = behind text stop in
    let v = h.valued in
    let e : take count (behind text at) ≡ word = ap (take count) h.digits.passed.split ∙ take_at word rest count h.counted in
    let f : drop count (behind text at) ≡ rest = ap (drop count) h.digits.passed.split ∙ drop_at word rest count h.counted in
    record {
      word = word;
      passed = h.digits.passed;
      found = ap (λ w. chosen w (drop count (behind text at))) e ∙ ap (chosen word) f
          ∙ is_chosen (length word == count) (list_all is_hex_digit word) (hex_value 0 word) (same (length word) count h.counted) h.digits.all (omega arith);
    } where
      chosen : List ℕ → List ℕ → Option Number
      chosen w rest = counted_is (length w == count) (list_all is_hex_digit w) (hex_value 0 w) rest

      same : (a b : ℕ) → a ≡ b → IsTrue (a == b)
      same a b e = grind (arith, nat_tests)

      is_chosen : (a b : Bool) (x : ℕ) → IsTrue a → IsTrue b → x ≡ value → counted_is a b x (behind text stop) ≡ Some (value, behind text stop)
      is_chosen true true x h k e = ap (λ n. Some (n, behind text stop)) e
      is_chosen true false x h k e = absurd (true_false _ k refl)
      is_chosen false b x h k e = absurd (true_false _ h refl)

pub hex_stops : (text : List ℕ) (at stop more c count value all : ℕ) → HasDigits text at stop count value → count < all → Passed text stop more (c ∷ []) → IsFalse (is_hex_digit c) →
    hex_digits all (behind text at) ≡ None
hex_stops text at stop more c count value all h n p t =
    let word = h.digits.word in
    let m = h.counted in
    let e : behind text at ≡ word ++ c ∷ behind text more = h.digits.passed.split ∙ ap (λ x. word ++ x) p.split in
    let f : IsFalse (list_all is_hex_digit (take all (behind text at))) = subst (λ x. IsFalse (list_all is_hex_digit (take all x))) (sym e) (taken_fails is_hex_digit all word (behind text more) c (omega arith) t) in
    none (length (take all (behind text at)) == all) (list_all is_hex_digit (take all (behind text at))) (hex_value 0 (take all (behind text at))) (drop all (behind text at)) f where
      none : (a b : Bool) (x : ℕ) (rest : List ℕ) → IsFalse b → counted_is a b x rest ≡ None
      none true true x rest h = absurd (true_false _ refl h)
      none true false x rest h = refl
      none false b x rest h = refl

-- too few digits are left
pub hex_ends : (text : List ℕ) (at stop count value all : ℕ) → HasDigits text at stop count value → count < all → behind text stop ≡ [] → hex_digits all (behind text at) ≡ None
hex_ends text at stop count value all h n t =
    let word = h.digits.word in
    let m = h.counted in
    let e : behind text at ≡ word ++ [] = h.digits.passed.split ∙ ap (λ x. word ++ x) t in
    let f : IsFalse (length (take all (behind text at)) == all) = subst (λ x. IsFalse (length (take all x) == all)) (sym e) (few all word (omega arith)) in
    none (length (take all (behind text at)) == all) (list_all is_hex_digit (take all (behind text at))) (hex_value 0 (take all (behind text at))) (drop all (behind text at)) f where
      none : (a b : Bool) (x : ℕ) (rest : List ℕ) → IsFalse a → counted_is a b x rest ≡ None
      none true b x rest h = absurd (true_false _ refl h)
      none false b x rest h = refl

      short : (k : ℕ) (w : List ℕ) → length w < k → length (take k (w ++ [])) < k
      short zero w n = absurd (omega arith)
      short (suc k) [] n = omega arith
      short (suc k) (c ∷ w) n = let i = short k w (omega arith) in omega arith

      differs : (a b : ℕ) → a < b → IsFalse (a == b)
      differs a b n = grind (arith, nat_tests)

      few : (k : ℕ) (w : List ℕ) → length w < k → IsFalse (length (take k (w ++ [])) == k)
      few k w n = differs (length (take k (w ++ []))) k (short k w n)

-- ---- digits in braces

pub braced_as : (text : List ℕ) (at stop value : ℕ) (h : AllDigits text at stop value) → braced (behind text at) ≡ code_point h.so_far.digits.word (behind text stop)
braced_as text at stop value h =
    let word = h.so_far.digits.word in
    let e : take_while is_hex_digit (behind text at) ≡ word = ap (take_while is_hex_digit) h.so_far.digits.passed.split ∙ taken_while is_hex_digit word (behind text stop) h.so_far.digits.all h.ends in
    ap (λ w. code_point w (drop (length w) (behind text at))) e
    ∙ ap (code_point word) (ap (drop (length word)) h.so_far.digits.passed.split ∙ drop_at word (behind text stop) (length word) refl)

abbrev point_is : Bool → Bool → Bool → ℕ → List ℕ → Option Number
point_is a b d x rest = if not a && b && d then Some (x, rest) else None

pub point_empty : (text : List ℕ) (at value : ℕ) → AllDigits text at at value → braced (behind text at) ≡ None
point_empty text at value h =
    let word = h.so_far.digits.word in
    let r = h.so_far.digits.passed.reaches in
    let n = length-le-encodes word in
    braced_as text at at value h
    ∙ none (is_empty word) (nat_le (hex_value 0 word) 0x10_FFFF) (begins_with (one_of "}") (behind text at)) (hex_value 0 word) (drop 1 (behind text at)) (empty word (omega arith)) where
      empty : (w : List ℕ) → length w ≤ 0 → IsTrue (is_empty w)
      empty [] n = refl
      empty (c ∷ w) n = absurd (omega arith)

      none : (a b d : Bool) (x : ℕ) (rest : List ℕ) → IsTrue a → point_is a b d x rest ≡ None
      none true b d x rest h = refl
      none false b d x rest h = absurd (true_false _ h refl)

pub point_large : (text : List ℕ) (at stop value : ℕ) → AllDigits text at stop value → 0x10_FFFF < value → braced (behind text at) ≡ None
point_large text at stop value h n =
    let word = h.so_far.digits.word in
    let v = h.so_far.valued in
    braced_as text at stop value h
    ∙ none (is_empty word) (nat_le (hex_value 0 word) 0x10_FFFF) (begins_with (one_of "}") (behind text stop)) (hex_value 0 word) (drop 1 (behind text stop)) (large (hex_value 0 word) (omega arith)) where
      large : (x : ℕ) → 0x10_FFFF < x → IsFalse (nat_le x 0x10_FFFF)
      large x n = grind (arith, nat_tests)

      none : (a b d : Bool) (x : ℕ) (rest : List ℕ) → IsFalse b → point_is a b d x rest ≡ None
      none a true d x rest h = absurd (true_false _ refl h)
      none true false d x rest h = refl
      none false false d x rest h = refl

pub point_open : (text : List ℕ) (at stop value : ℕ) → AllDigits text at stop value → IsFalse (begins_with (one_of "}") (behind text stop)) → braced (behind text at) ≡ None
point_open text at stop value h t =
    let word = h.so_far.digits.word in
    braced_as text at stop value h
    ∙ none (is_empty word) (nat_le (hex_value 0 word) 0x10_FFFF) (begins_with (one_of "}") (behind text stop)) (hex_value 0 word) (drop 1 (behind text stop)) t where
      none : (a b d : Bool) (x : ℕ) (rest : List ℕ) → IsFalse d → point_is a b d x rest ≡ None
      none a b true x rest h = absurd (true_false _ refl h)
      none true b false x rest h = refl
      none false true false x rest h = refl
      none false false false x rest h = refl

pub point_closed : (text : List ℕ) (at stop more value : ℕ) → AllDigits text at stop value → ¬ (stop ≡ at) → value ≤ 0x10_FFFF → Passed text stop more (0x7D ∷ []) →
    IsRead (braced (behind text at)) value text at more
point_closed text at stop more value h n m p =
    let word = h.so_far.digits.word in
    let v = h.so_far.valued in
    let same : hex_value 0 word ≡ value = omega arith in
    record {
      word = word ++ 0x7D ∷ [];
      passed = passed_on text at stop more word (0x7D ∷ []) h.so_far.digits.passed p;
      found = braced_as text at stop value h
          ∙ some (is_empty word) (nat_le (hex_value 0 word) 0x10_FFFF) (begins_with (one_of "}") (behind text stop)) (hex_value 0 word) (drop 1 (behind text stop))
          (not_empty word h.so_far.digits.passed) (fits (hex_value 0 word) (omega arith)) (subst (λ x. IsTrue (begins_with (one_of "}") x)) (sym p.split) refl) same (ap (drop 1) p.split);
    } where
      not_empty : (w : List ℕ) → Passed text at stop w → IsFalse (is_empty w)
      not_empty [] q = let r = q.reaches in absurd (n (omega arith))
      not_empty (c ∷ w) q = refl

      fits : (x : ℕ) → x ≤ 0x10_FFFF → IsTrue (nat_le x 0x10_FFFF)
      fits x n = grind (arith, nat_tests)

      some : (a b d : Bool) (x : ℕ) (rest : List ℕ) → IsFalse a → IsTrue b → IsTrue d → x ≡ value → rest ≡ behind text more → point_is a b d x rest ≡ Some (value, behind text more)
      some false true true x rest h k l e f = ap (λ n. Some (n, rest)) e ∙ ap (λ r. Some (value, r)) f
      some true b d x rest h k l e f = absurd (true_false _ refl h)
      some false false d x rest h k l e f = absurd (true_false _ k refl)
      some false true false x rest h k l e f = absurd (true_false _ l refl)

-- ---- surrogates

pub trail_some : (text : List ℕ) (at a b stop value : ℕ) → Passed text at a (0x5C ∷ []) → Passed text a b (0x75 ∷ []) → IsRead (hex_digits 4 (behind text b)) value text b stop →
    is_trail value ≡ true → IsRead (trail (behind text at)) value text at stop
trail_some text at a b stop value p q h t = record {
  word = 0x5C ∷ 0x75 ∷ h.word;
  passed = passed_on text at a stop (0x5C ∷ []) (0x75 ∷ h.word) p (passed_on text a b stop (0x75 ∷ []) h.word q h.passed);
  found = ap trail p.split ∙ ap (λ cs. trail (0x5C ∷ cs)) q.split ∙ ap only_trail h.found ∙ ap (λ x. if x then Some (value, behind text stop) else None) t;
}

pub unit_paired : (u : Bool) (text : List ℕ) (at mid stop lead low : ℕ) → IsRead (hex_digits 4 (behind text at)) lead text at mid → u ≡ true → is_lead lead ≡ true →
    IsRead (trail (behind text mid)) low text mid stop → IsRead (unit u (hex_digits 4 (behind text at))) (0x10000 + 0x400 * (lead - 0xD800) + (low - 0xDC00)) text at stop
unit_paired u text at mid stop lead low h e f k =
    let rest = behind text mid in
    record {
      word = h.word ++ k.word;
      passed = passed_on text at mid stop h.word k.word h.passed k.passed;
      found = ap (unit u) h.found ∙ ap (λ x. Some (if x && is_lead lead then paired lead rest (trail rest) else (lead, rest))) e
          ∙ ap (λ x. Some (if x then paired lead rest (trail rest) else (lead, rest))) f ∙ ap (λ o. Some (paired lead rest o)) k.found;
    }
