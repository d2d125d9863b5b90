-- Punctuators by their length, and the longest.
use Rattle.std.proofs.Common.{take-append-drop, ◌≡◌, ℕ, suc, zero, ◌+◌, ◌<◌, ◌≤◌, Bool, true, false, not, ◌&&◌, ◌||◌, ◌==◌, List, [], ◌∷◌, ◌++◌, length, take, drop, IsTrue, IsFalse, refl, sym, ap, ◌∙◌, subst, append_assoc, arith, inl, inr, if◌then◌else◌, codes}
use Rattle.std.specs.Prelude.{nat_le, encode_utf8_all}
use Rattle.std.specs.Str.{IsUtf8}
use Rattle.std.specs.Char.{len_utf8}
use Rattle.std.proofs.lemmas.Str.{encodes-chars, IsUtf8-drop}
use Rattle.std.specs.List.{list_all}
use Rattle.std.specs.Char.{is_ascii_digit}
use Rattle.std.proofs.lemmas.Bool.Decides.{nat_tests}
use Rattle.std.proofs.lemmas.Bool.{cases_lt, eqb-true, leb-true}
use Rattle.tokens.specs.Alphabet.{one_of, is_among, begins_with, is_decimal_digit}
use Rattle.tokens.specs.Lexical.{Punctuator, punctuators, is_punctuator, may_stand, is_at, none_longer, is_token}
use Rattle.tokens.specs.PunctuatorSets.{alone, front, goes_on, tail, is_single, firsts, is_pair, firsts_of_three, is_triple, is_quadruple}
use Rattle.tokens.specs.Tokens.{size}
use Rattle.tokens.specs.Reading.{behind}
use Rattle.tokens.specs.Scanned.{IsWordAt, NoWordAt, Looks, Passed}
use Rattle.source_text.specs.Source.{IsPlace}
use Rattle.tokens.proofs.Beginnings.{true_false}
use Rattle.tokens.proofs.Longest.{none_is_longer}
use Rattle.tokens.proofs.Classes.{words_all}
use Rattle.tokens.proofs.TokenUniqueness.{from_list}
use Rattle.tokens.proofs.PassedCharacters.{size_append, pass_char}

-- a test and its converse
same_tests : (a b : Bool) → (IsTrue a → IsTrue b) → (IsTrue b → IsTrue a) → a ≡ b
same_tests true true f g = refl
same_tests true false f g = absurd (true_false _ (f refl) refl)
same_tests false true f g = absurd (true_false _ (g refl) refl)
same_tests false false f g = refl

-- what the words of each length are
abbrev fits_tests : List ℕ → Bool
fits_tests [] = false
fits_tests (b ∷ []) = is_single b
fits_tests (b ∷ c ∷ []) = is_pair b c
fits_tests (b ∷ c ∷ d ∷ []) = is_triple b c d
fits_tests (b ∷ c ∷ d ∷ e ∷ []) = is_quadruple b c d e
fits_tests (b ∷ c ∷ d ∷ e ∷ f ∷ rest) = false

tested : (w : List ℕ) → IsTrue (is_punctuator w) → IsTrue (fits_tests w)
tested w h = words_all punctuators fits_tests w refl h

pub single_is : (b : ℕ) → is_punctuator (b ∷ []) ≡ is_single b
single_is b = same_tests _ _ (tested (b ∷ [])) (λ h. from_list (λ x. is_punctuator (x ∷ [])) (codes "{}()[];,:~.?<>+-*%&|^!=/") b refl h)

among_if : (t : Bool) (b : ℕ) (xs ys : List ℕ) (P : Type 0) → (t ≡ true → IsTrue (is_among b xs) → P) → (IsTrue (is_among b ys) → P) → IsTrue (is_among b (if t then xs else ys)) → P
among_if true b xs ys P f g h = f refl h
among_if false b xs ys P f g h = g h

pair_at : (b c k : ℕ) → IsTrue (list_all (λ x. is_punctuator (x ∷ k ∷ [])) (firsts k)) → (c == k) ≡ true → IsTrue (is_among b (firsts k)) → IsTrue (is_punctuator (b ∷ c ∷ []))
pair_at b c k ok e h = subst (λ y. IsTrue (is_punctuator (b ∷ y ∷ []))) (sym (eqb-true c k e)) (from_list (λ x. is_punctuator (x ∷ k ∷ [])) (firsts k) b ok h)

pub pair_is : (b c : ℕ) → is_punctuator (b ∷ c ∷ []) ≡ is_pair b c
pair_is b c =
    let P : Type 0 = IsTrue (is_punctuator (b ∷ c ∷ [])) in
    same_tests _ _ (tested (b ∷ c ∷ []))
    (among_if (c == 61) b _ _ P (pair_at b c 61 refl) (among_if (c == 62) b _ _ P (pair_at b c 62 refl) (among_if (c == 46) b _ _ P (pair_at b c 46 refl)
    (among_if (c == 43) b _ _ P (pair_at b c 43 refl) (among_if (c == 45) b _ _ P (pair_at b c 45 refl) (among_if (c == 42) b _ _ P (pair_at b c 42 refl)
    (among_if (c == 60) b _ _ P (pair_at b c 60 refl) (among_if (c == 38) b _ _ P (pair_at b c 38 refl) (among_if (c == 124) b _ _ P (pair_at b c 124 refl)
    (among_if (c == 63) b _ _ P (pair_at b c 63 refl) (λ h. absurd (true_false _ h refl))))))))))))

triple_at : (b c d k l : ℕ) → IsTrue (list_all (λ x. is_punctuator (x ∷ k ∷ l ∷ [])) (firsts_of_three k l)) → (d == l) ≡ true → (c == k) ≡ true →
    IsTrue (is_among b (firsts_of_three k l)) → IsTrue (is_punctuator (b ∷ c ∷ d ∷ []))
triple_at b c d k l ok e f h =
    subst (λ y. IsTrue (is_punctuator (b ∷ c ∷ y ∷ []))) (sym (eqb-true d l e)) (subst (λ y. IsTrue (is_punctuator (b ∷ y ∷ l ∷ []))) (sym (eqb-true c k f))
    (from_list (λ x. is_punctuator (x ∷ k ∷ l ∷ [])) (firsts_of_three k l) b ok h))

pub triple_is : (b c d : ℕ) → is_punctuator (b ∷ c ∷ d ∷ []) ≡ is_triple b c d
triple_is b c d =
    let P : Type 0 = IsTrue (is_punctuator (b ∷ c ∷ d ∷ [])) in
    let none : IsTrue (is_among b []) → P = λ h. absurd (true_false _ h refl) in
    same_tests _ _ (tested (b ∷ c ∷ d ∷ []))
    (among_if (d == 61) b _ _ P
    (λ e. among_if (c == 61) b _ _ P (triple_at b c d 61 61 refl e) (among_if (c == 42) b _ _ P (triple_at b c d 42 61 refl e) (among_if (c == 60) b _ _ P (triple_at b c d 60 61 refl e)
    (among_if (c == 62) b _ _ P (triple_at b c d 62 61 refl e) (among_if (c == 38) b _ _ P (triple_at b c d 38 61 refl e) (among_if (c == 124) b _ _ P (triple_at b c d 124 61 refl e)
    (among_if (c == 63) b _ _ P (triple_at b c d 63 61 refl e) none)))))))
    (among_if (d == 46) b _ _ P (λ e. among_if (c == 46) b _ _ P (triple_at b c d 46 46 refl e) none)
    (among_if (d == 62) b _ _ P (λ e. among_if (c == 62) b _ _ P (triple_at b c d 62 62 refl e) none) none)))

pub quadruple_is : (b c d e : ℕ) → is_punctuator (b ∷ c ∷ d ∷ e ∷ []) ≡ is_quadruple b c d e
quadruple_is b c d e = same_tests _ _ (tested (b ∷ c ∷ d ∷ e ∷ [])) (λ h.
    let p = equal b c d e h in
    subst (λ x. IsTrue (is_punctuator (x ∷ c ∷ d ∷ e ∷ []))) (sym p.0) (subst (λ x. IsTrue (is_punctuator (62 ∷ x ∷ d ∷ e ∷ []))) (sym p.1)
    (subst (λ x. IsTrue (is_punctuator (62 ∷ 62 ∷ x ∷ e ∷ []))) (sym p.2) (subst (λ x. IsTrue (is_punctuator (62 ∷ 62 ∷ 62 ∷ x ∷ []))) (sym p.3) refl)))) where
      equal : (b c d e : ℕ) → IsTrue (is_quadruple b c d e) → (b ≡ 62) × (c ≡ 62) × (d ≡ 62) × (e ≡ 61)
      equal b c d e h = (grind (arith, nat_tests), grind (arith, nat_tests), grind (arith, nat_tests), grind (arith, nat_tests))

-- no character of a punctuator is 0
abbrev no_zero : List ℕ → Bool
no_zero w = list_all (λ x. not (x == 0)) w

full : (w : List ℕ) → IsTrue (is_punctuator w) → IsTrue (no_zero w)
full w h = words_all punctuators no_zero w refl h

-- the front of a text, of a length, is a punctuator at its place
pub record Sized (n : ℕ) (cs : List ℕ) : Type 0 where
  pub long : length (take n cs) ≡ n
  pub stands : IsTrue (is_at Punctuator (take n cs) (drop n cs))

-- ---- by the next characters

begins_front : (cs : List ℕ) → begins_with is_decimal_digit cs ≡ is_decimal_digit (front cs)
begins_front [] = refl
begins_front (c ∷ cs) = refl

head_not_zero : (a : ℕ) (w : List ℕ) → IsTrue (no_zero (a ∷ w)) → a ≡ 0 → ⊥
head_not_zero a w h e = no (a == 0) (list_all (λ x. not (x == 0)) w) h (subst (λ x. (x == 0) ≡ true) (sym e) refl) where
  no : (a b : Bool) → IsTrue (not a && b) → a ≡ true → ⊥
  no a b h e = grind (arith, nat_tests)

rest_no_zero : (a : ℕ) (w : List ℕ) → IsTrue (no_zero (a ∷ w)) → IsTrue (no_zero w)
rest_no_zero a w h = second (not (a == 0)) (list_all (λ x. not (x == 0)) w) h where
  second : (a b : Bool) → IsTrue (a && b) → IsTrue b
  second a b h = grind (arith, nat_tests)

-- ---- the longest

-- no punctuator has more than four characters
short : (w : List ℕ) → IsTrue (is_punctuator w) → length w ≤ 4
short w h = leb-true (length w) 4 (words_all punctuators (λ x. nat_le (length x) 4) w refl h)

at_word : (w r : List ℕ) → IsTrue (is_at Punctuator w r) → Sized (length w) (w ++ r)
at_word w r h = record { long = ap length (cut w r); stands = subst (λ x. IsTrue (is_at Punctuator x (drop (length w) (w ++ r)))) (sym (cut w r)) (subst (λ x. IsTrue (is_at Punctuator w x)) (sym (behind_cut w r)) h) } where
  cut : (w r : List ℕ) → take (length w) (w ++ r) ≡ w
  cut [] r = refl
  cut (c ∷ w) r = ap (λ x. c ∷ x) (cut w r)

  behind_cut : (w r : List ℕ) → drop (length w) (w ++ r) ≡ r
  behind_cut [] r = refl
  behind_cut (c ∷ w) r = behind_cut w r

is_of_at : (w r : List ℕ) → IsTrue (is_at Punctuator w r) → IsTrue (is_punctuator w)
is_of_at w r h = first (is_punctuator w) (may_stand Punctuator w r) h where
  first : (a b : Bool) → IsTrue (a && b) → IsTrue a
  first a b h = grind (arith, nat_tests)

false_from_none : (b : Bool) → (IsTrue b → ⊥) → IsFalse b
false_from_none true f = absurd (f refl)
false_from_none false f = refl

length_on : (w : List ℕ) (x : ℕ) (more : List ℕ) → length w < length (w ++ x ∷ more)
length_on [] x more = omega arith
length_on (c ∷ w) x more = let h = length_on w x more in omega arith

-- a punctuator where none of more characters stands is the token
pub longest_mark : (w r : List ℕ) → IsTrue (is_at Punctuator w r) → ((n : ℕ) → length w < n → n ≤ 4 → Sized n (w ++ r) → ⊥) → IsTrue (is_token Punctuator w r)
longest_mark w r h none =
    all (is_at Punctuator w r) (none_longer Punctuator w r) h
    (none_is_longer Punctuator w r (λ x more rest q. false_from_none _ (λ k.
    none (length (w ++ x ∷ more)) (length_on w x more) (short (w ++ x ∷ more) (is_of_at (w ++ x ∷ more) rest k))
    (subst (λ y. Sized (length (w ++ x ∷ more)) y) (append_assoc w (x ∷ more) rest ∙ ap (λ y. w ++ y) (sym q)) (at_word (w ++ x ∷ more) rest k))))) where
      all : (a n : Bool) → IsTrue a → IsTrue n → IsTrue ((a && n) && true)
      all a n h k = grind (arith, nat_tests)

pub token_sized : (w r : List ℕ) → IsTrue (is_token Punctuator w r) → Sized (length w) (w ++ r)
token_sized w r h = at_word w r (first (is_at Punctuator w r) (none_longer Punctuator w r) h) where
  first : (a b : Bool) → IsTrue ((a && b) && true) → IsTrue a
  first a b h = grind (arith, nat_tests)

-- ---- the next characters of a text

abbrev pub firsts_of : ℕ → List ℕ → List ℕ
firsts_of zero cs = []
firsts_of (suc n) cs = front cs ∷ firsts_of n (tail cs)

firsts_there : (n : ℕ) (cs : List ℕ) → IsTrue (no_zero (firsts_of n cs)) → (firsts_of n cs ≡ take n cs) × (length (take n cs) ≡ n)
firsts_there zero cs h = (refl, refl)
firsts_there (suc n) [] h = absurd (head_not_zero 0 (firsts_of n []) h refl)
firsts_there (suc n) (c ∷ cs) h = let r = firsts_there n cs (rest_no_zero c (firsts_of n cs) h) in (ap (λ x. c ∷ x) r.0, ap (λ x. suc x) r.1)

there_firsts : (n : ℕ) (cs : List ℕ) → length (take n cs) ≡ n → firsts_of n cs ≡ take n cs
there_firsts zero cs h = refl
there_firsts (suc n) [] h = absurd (let z : 0 ≡ suc n = h in cc)
there_firsts (suc n) (c ∷ cs) h = ap (λ x. c ∷ x) (there_firsts n cs (let z : suc (length (take n cs)) ≡ suc n = h in cc))

pub sized_is : (n : ℕ) (cs : List ℕ) → IsTrue (is_at Punctuator (firsts_of n cs) (drop n cs)) → Sized n cs
sized_is n cs h =
    let r = firsts_there n cs (full (firsts_of n cs) (is_of_at (firsts_of n cs) (drop n cs) h)) in
    record { long = r.1; stands = subst (λ x. IsTrue (is_at Punctuator x (drop n cs))) r.0 h }

pub sized_tests : (n : ℕ) (cs : List ℕ) → Sized n cs → IsTrue (is_at Punctuator (firsts_of n cs) (drop n cs))
sized_tests n cs s = subst (λ x. IsTrue (is_at Punctuator x (drop n cs))) (sym (there_firsts n cs s.long)) s.stands

-- what is asked of each length
four_at : (b c d e : ℕ) (r : List ℕ) → is_at Punctuator (b ∷ c ∷ d ∷ e ∷ []) r ≡ is_quadruple b c d e
four_at b c d e r = alone (b == 63) (c == 46) (b == 46) (is_punctuator (b ∷ c ∷ d ∷ e ∷ [])) (begins_with is_decimal_digit r) ∙ quadruple_is b c d e where
  alone : (p q o a x : Bool) → (a && not (((p && (q && false)) || ((o && false) || false)) && x)) ≡ a
  alone p q o a x = grind (arith, nat_tests)

three_at : (b c d : ℕ) (r : List ℕ) → is_at Punctuator (b ∷ c ∷ d ∷ []) r ≡ is_triple b c d
three_at b c d r = alone (b == 63) (c == 46) (b == 46) (is_punctuator (b ∷ c ∷ d ∷ [])) (begins_with is_decimal_digit r) ∙ triple_is b c d where
  alone : (p q o a x : Bool) → (a && not (((p && (q && false)) || ((o && false) || false)) && x)) ≡ a
  alone p q o a x = grind (arith, nat_tests)

two_at : (b c : ℕ) (r : List ℕ) → is_at Punctuator (b ∷ c ∷ []) r ≡ (is_pair b c && not (((b == 63) && (c == 46)) && is_decimal_digit (front r)))
two_at b c r =
    alone (b == 63) (c == 46) (b == 46) (is_punctuator (b ∷ c ∷ [])) (begins_with is_decimal_digit r)
    ∙ ap (λ a. a && not (((b == 63) && (c == 46)) && begins_with is_decimal_digit r)) (pair_is b c)
    ∙ ap (λ x. is_pair b c && not (((b == 63) && (c == 46)) && x)) (begins_front r) where
      alone : (p q o a x : Bool) → (a && not (((p && (q && true)) || ((o && false) || false)) && x)) ≡ (a && not ((p && q) && x))
      alone p q o a x = grind (arith, nat_tests)

one_at : (b : ℕ) (r : List ℕ) → is_at Punctuator (b ∷ []) r ≡ (is_single b && not ((b == 46) && is_decimal_digit (front r)))
one_at b r =
    alone (b == 63) (b == 46) (is_punctuator (b ∷ [])) (begins_with is_decimal_digit r)
    ∙ ap (λ a. a && not ((b == 46) && begins_with is_decimal_digit r)) (single_is b)
    ∙ ap (λ x. is_single b && not ((b == 46) && x)) (begins_front r) where
      alone : (p o a x : Bool) → (a && not (((p && false) || ((o && true) || false)) && x)) ≡ (a && not (o && x))
      alone p o a x = grind (arith, nat_tests)

-- the place behind so many characters
pub record Ahead (text : List ℕ) (at stop n : ℕ) : Type 0 where
  pub others : behind text stop ≡ drop n (behind text at)
  pub reaches : stop ≡ at + size (take n (behind text at))
  pub place : IsPlace text stop

tail_drop : (n : ℕ) (cs : List ℕ) → tail (drop n cs) ≡ drop (suc n) cs
tail_drop zero [] = refl
tail_drop zero (c ∷ cs) = refl
tail_drop (suc n) [] = refl
tail_drop (suc n) (c ∷ cs) = tail_drop n cs

take_on : (n : ℕ) (cs : List ℕ) → take n cs ++ take 1 (drop n cs) ≡ take (suc n) cs
take_on zero [] = refl
take_on zero (c ∷ cs) = refl
take_on (suc n) [] = refl
take_on (suc n) (c ∷ cs) = ap (λ x. c ∷ x) (take_on n cs)

pub ahead_one : (text : List ℕ) (at c stop : ℕ) → Looks text at c stop → Ahead text at stop 1
ahead_one text at c stop l = record { others = l.others ∙ tail_drop 0 (behind text at); reaches = l.reaches; place = l.place }

pub ahead_more : (text : List ℕ) (at stop n c more : ℕ) → Ahead text at stop n → Looks text stop c more → Ahead text at more (suc n)
ahead_more text at stop n c more a l =
    let cs = behind text at in
    let s = size_append (take n cs) (take 1 (drop n cs)) in
    let r : stop ≡ at + size (take n cs) = a.reaches in
    let q : more ≡ stop + size (take 1 (drop n cs)) = l.reaches ∙ ap (λ x. stop + size (take 1 x)) a.others in
    let m : more ≡ at + size (take n cs ++ take 1 (drop n cs)) = omega arith in
    record {
      others = l.others ∙ ap tail a.others ∙ tail_drop n cs;
      reaches = m ∙ ap (λ x. at + size x) (take_on n cs);
      place = l.place;
    }

-- four looks, and what they see
pub record Four (text : List ℕ) (at b c d e : ℕ) (p q r s : ℕ) : Type 0 where
  pub one : Looks text at b p
  pub two : Looks text p c q
  pub three : Looks text q d r
  pub four : Looks text r e s

seen_two : (text : List ℕ) (at b c d e p q r s : ℕ) → Four text at b c d e p q r s → c ≡ front (tail (behind text at))
seen_two text at b c d e p q r s f = f.two.first ∙ ap front f.one.others

seen_three : (text : List ℕ) (at b c d e p q r s : ℕ) → Four text at b c d e p q r s → d ≡ front (tail (tail (behind text at)))
seen_three text at b c d e p q r s f = f.three.first ∙ ap front (f.two.others ∙ ap tail f.one.others)

seen_four : (text : List ℕ) (at b c d e p q r s : ℕ) → Four text at b c d e p q r s → e ≡ front (tail (tail (tail (behind text at))))
seen_four text at b c d e p q r s f = f.four.first ∙ ap front (f.three.others ∙ ap tail (f.two.others ∙ ap tail f.one.others))

-- the tests of the code are those of the text
pub test_four : (text : List ℕ) (at b c d e p q r s : ℕ) → Four text at b c d e p q r s → is_at Punctuator (firsts_of 4 (behind text at)) (drop 4 (behind text at)) ≡ is_quadruple b c d e
test_four text at b c d e p q r s f =
    four_at (front (behind text at)) (front (tail (behind text at))) (front (tail (tail (behind text at)))) (front (tail (tail (tail (behind text at))))) (drop 4 (behind text at))
    ∙ ap (λ x. is_quadruple x (front (tail (behind text at))) (front (tail (tail (behind text at)))) (front (tail (tail (tail (behind text at)))))) (sym f.one.first)
    ∙ ap (λ x. is_quadruple b x (front (tail (tail (behind text at)))) (front (tail (tail (tail (behind text at)))))) (sym (seen_two text at b c d e p q r s f))
    ∙ ap (λ x. is_quadruple b c x (front (tail (tail (tail (behind text at)))))) (sym (seen_three text at b c d e p q r s f))
    ∙ ap (λ x. is_quadruple b c d x) (sym (seen_four text at b c d e p q r s f))

pub test_three : (text : List ℕ) (at b c d e p q r s : ℕ) → Four text at b c d e p q r s → is_at Punctuator (firsts_of 3 (behind text at)) (drop 3 (behind text at)) ≡ is_triple b c d
test_three text at b c d e p q r s f =
    three_at (front (behind text at)) (front (tail (behind text at))) (front (tail (tail (behind text at)))) (drop 3 (behind text at))
    ∙ ap (λ x. is_triple x (front (tail (behind text at))) (front (tail (tail (behind text at))))) (sym f.one.first)
    ∙ ap (λ x. is_triple b x (front (tail (tail (behind text at))))) (sym (seen_two text at b c d e p q r s f))
    ∙ ap (λ x. is_triple b c x) (sym (seen_three text at b c d e p q r s f))

pub test_two : (text : List ℕ) (at b c d e p q r s : ℕ) → Four text at b c d e p q r s →
    is_at Punctuator (firsts_of 2 (behind text at)) (drop 2 (behind text at)) ≡ (is_pair b c && not (((b == 63) && (c == 46)) && is_decimal_digit d))
test_two text at b c d e p q r s f =
    let z : front (drop 2 (behind text at)) ≡ d = ap front (sym (tail_drop 1 (behind text at)) ∙ ap tail (sym (tail_drop 0 (behind text at)))) ∙ sym (seen_three text at b c d e p q r s f) in
    two_at (front (behind text at)) (front (tail (behind text at))) (drop 2 (behind text at))
    ∙ ap (λ x. is_pair x (front (tail (behind text at))) && not (((x == 63) && (front (tail (behind text at)) == 46)) && is_decimal_digit (front (drop 2 (behind text at))))) (sym f.one.first)
    ∙ ap (λ x. is_pair b x && not (((b == 63) && (x == 46)) && is_decimal_digit (front (drop 2 (behind text at))))) (sym (seen_two text at b c d e p q r s f))
    ∙ ap (λ x. is_pair b c && not (((b == 63) && (c == 46)) && is_decimal_digit x)) z

pub test_one : (text : List ℕ) (at b c d e p q r s : ℕ) → Four text at b c d e p q r s →
    is_at Punctuator (firsts_of 1 (behind text at)) (drop 1 (behind text at)) ≡ (is_single b && not ((b == 46) && is_decimal_digit c))
test_one text at b c d e p q r s f =
    let z : front (drop 1 (behind text at)) ≡ c = ap front (sym (tail_drop 0 (behind text at))) ∙ sym (seen_two text at b c d e p q r s f) in
    one_at (front (behind text at)) (drop 1 (behind text at))
    ∙ ap (λ x. is_single x && not ((x == 46) && is_decimal_digit (front (drop 1 (behind text at))))) (sym f.one.first)
    ∙ ap (λ x. is_single b && not ((b == 46) && is_decimal_digit x)) z

-- the token of a length where none longer stands
pub mark_word : (text : List ℕ) (at stop n : ℕ) → Ahead text at stop n → Sized n (behind text at) → ((m : ℕ) → n < m → m ≤ 4 → Sized m (behind text at) → ⊥) → IsWordAt Punctuator text at stop
mark_word text at stop n a s none =
    let cs = behind text at in
    let whole : cs ≡ take n cs ++ behind text stop = sym (take-append-drop n cs) ∙ ap (λ x. take n cs ++ x) (sym a.others) in
    record {
      word = take n cs;
      passed = record { split = whole; reaches = a.reaches; place = a.place };
      longest = longest_mark (take n cs) (behind text stop) (subst (λ x. IsTrue (is_at Punctuator (take n cs) x)) (sym a.others) s.stands)
          (λ m lt le z. none m (let q = s.long in omega arith) le (subst (λ x. Sized m x) (sym whole) z));
    }

not_sized : (n : ℕ) (cs : List ℕ) (t : Bool) → is_at Punctuator (firsts_of n cs) (drop n cs) ≡ t → t ≡ false → Sized n cs → ⊥
not_sized n cs t e f s = true_false _ (sized_tests n cs s) (e ∙ f)

is_sized : (n : ℕ) (cs : List ℕ) (t : Bool) → is_at Punctuator (firsts_of n cs) (drop n cs) ≡ t → t ≡ true → Sized n cs
is_sized n cs t e f = sized_is n cs (e ∙ f)

above : (cs : List ℕ) (n m : ℕ) → (n < 1 → Sized 1 cs → ⊥) → (n < 2 → Sized 2 cs → ⊥) → (n < 3 → Sized 3 cs → ⊥) → (n < 4 → Sized 4 cs → ⊥) → n < m → m ≤ 4 → Sized m cs → ⊥
above cs n m f1 f2 f3 f4 lt le s =
    elim (cases_lt m 2) [
      | inl a ↦ let q : m ≡ 1 = omega arith in f1 (omega arith) (subst (λ x. Sized x cs) q s)
      | inr a ↦ elim (cases_lt m 3) [
        | inl b ↦ let q : m ≡ 2 = omega arith in f2 (omega arith) (subst (λ x. Sized x cs) q s)
        | inr b ↦ elim (cases_lt m 4) [
          | inl d ↦ let q : m ≡ 3 = omega arith in f3 (omega arith) (subst (λ x. Sized x cs) q s)
          | inr d ↦ let q : m ≡ 4 = omega arith in f4 (omega arith) (subst (λ x. Sized x cs) q s)
        ]
      ]
    ]

pub found_four : (text : List ℕ) (at b c d e p q r s : ℕ) → Four text at b c d e p q r s → is_quadruple b c d e ≡ true → IsWordAt Punctuator text at s
found_four text at b c d e p q r s f t =
    mark_word text at s 4 (ahead_more text at r 3 e s (ahead_more text at q 2 d r (ahead_more text at p 1 c q (ahead_one text at b p f.one) f.two) f.three) f.four)
    (is_sized 4 (behind text at) _ (test_four text at b c d e p q r s f) t) (λ m lt le z. absurd (omega arith))

pub found_three : (text : List ℕ) (at b c d e p q r s : ℕ) → Four text at b c d e p q r s → is_quadruple b c d e ≡ false → is_triple b c d ≡ true → IsWordAt Punctuator text at r
found_three text at b c d e p q r s f u t =
    mark_word text at r 3 (ahead_more text at q 2 d r (ahead_more text at p 1 c q (ahead_one text at b p f.one) f.two) f.three)
    (is_sized 3 (behind text at) _ (test_three text at b c d e p q r s f) t)
    (λ m. above (behind text at) 3 m (λ l. absurd (omega arith)) (λ l. absurd (omega arith)) (λ l. absurd (omega arith)) (λ l. not_sized 4 (behind text at) _ (test_four text at b c d e p q r s f) u))

pub found_two : (text : List ℕ) (at b c d e p q r s : ℕ) → Four text at b c d e p q r s → is_quadruple b c d e ≡ false → is_triple b c d ≡ false →
    (is_pair b c && not (((b == 63) && (c == 46)) && is_decimal_digit d)) ≡ true → IsWordAt Punctuator text at q
found_two text at b c d e p q r s f u v t =
    mark_word text at q 2 (ahead_more text at p 1 c q (ahead_one text at b p f.one) f.two)
    (is_sized 2 (behind text at) _ (test_two text at b c d e p q r s f) t)
    (λ m. above (behind text at) 2 m (λ l. absurd (omega arith)) (λ l. absurd (omega arith)) (λ l. not_sized 3 (behind text at) _ (test_three text at b c d e p q r s f) v)
    (λ l. not_sized 4 (behind text at) _ (test_four text at b c d e p q r s f) u))

pub found_one : (text : List ℕ) (at b c d e p q r s : ℕ) → Four text at b c d e p q r s → is_quadruple b c d e ≡ false → is_triple b c d ≡ false →
    (is_pair b c && not (((b == 63) && (c == 46)) && is_decimal_digit d)) ≡ false → (is_single b && not ((b == 46) && is_decimal_digit c)) ≡ true → IsWordAt Punctuator text at p
found_one text at b c d e p q r s f u v w t =
    mark_word text at p 1 (ahead_one text at b p f.one)
    (is_sized 1 (behind text at) _ (test_one text at b c d e p q r s f) t)
    (λ m. above (behind text at) 1 m (λ l. absurd (omega arith)) (λ l. not_sized 2 (behind text at) _ (test_two text at b c d e p q r s f) w)
    (λ l. not_sized 3 (behind text at) _ (test_three text at b c d e p q r s f) v) (λ l. not_sized 4 (behind text at) _ (test_four text at b c d e p q r s f) u))

token_at : (w r : List ℕ) → IsTrue (is_token Punctuator w r) → IsTrue (is_at Punctuator w r)
token_at w r h = first (is_at Punctuator w r) (none_longer Punctuator w r) h where
  first : (a b : Bool) → IsTrue ((a && b) && true) → IsTrue a
  first a b h = grind (arith, nat_tests)

not_empty : (w : List ℕ) → IsTrue (is_punctuator w) → 0 < length w
not_empty [] h = absurd (true_false _ h refl)
not_empty (c ∷ w) h = omega arith

pub found_none : (text : List ℕ) (at b c d e p q r s : ℕ) → Four text at b c d e p q r s → is_quadruple b c d e ≡ false → is_triple b c d ≡ false →
    (is_pair b c && not (((b == 63) && (c == 46)) && is_decimal_digit d)) ≡ false → (is_single b && not ((b == 46) && is_decimal_digit c)) ≡ false → NoWordAt Punctuator text at
found_none text at b c d e p q r s f u v w t = λ word rest same h.
    let sized = token_sized word rest h in
    above (behind text at) 0 (length word) (λ l. not_sized 1 (behind text at) _ (test_one text at b c d e p q r s f) t) (λ l. not_sized 2 (behind text at) _ (test_two text at b c d e p q r s f) w)
    (λ l. not_sized 3 (behind text at) _ (test_three text at b c d e p q r s f) v) (λ l. not_sized 4 (behind text at) _ (test_four text at b c d e p q r s f) u)
    (not_empty word (is_of_at word rest (token_at word rest h))) (short word (is_of_at word rest (token_at word rest h)))
    (subst (λ x. Sized (length word) x) (sym same) sized)

pub digit_is : (c : ℕ) → is_ascii_digit c ≡ is_decimal_digit c
digit_is c = grind (arith, nat_tests)

-- ---- without looking further than is needed

record Seen (text : List ℕ) (at : ℕ) : Type 0 where
  c : ℕ
  stop : ℕ
  looks : Looks text at c stop

-- a step is a look
pub first_look : (text : List ℕ) (at stop c : ℕ) → Passed text at stop (c ∷ []) → Looks text at c stop
first_look text at stop c p =
    record {
      first = sym (ap front p.split);
      others = sym (ap tail p.split);
      reaches = p.reaches ∙ ap (λ x. at + size (take 1 x)) (sym p.split);
      place = p.place;
    }

-- at each place there is something to look at
seen_at : (text : List ℕ) (at : ℕ) → IsUtf8 text → IsPlace text at → Seen text at
seen_at text at u p = by_front (behind text at) refl where
  by_front : (cs : List ℕ) → behind text at ≡ cs → Seen text at
  by_front [] e = record { c = 0; stop = at; looks = record { first = sym (ap front e); others = e ∙ sym (ap tail e); reaches = stays ∙ ap (λ x. at + size (take 1 x)) (sym e); place = p } } where
    stays : at ≡ at + size []
    stays = omega arith
  by_front (c ∷ cs) e =
      let w = pass_char text (encode_utf8_all cs) at c u p (sym (encodes-chars (drop at text) (IsUtf8-drop text at u p)) ∙ ap encode_utf8_all e) in
      record { c = c; stop = at + len_utf8 c; looks = first_look text at (at + len_utf8 c) c w }

if_false : (t : Bool) (x y : List ℕ) → t ≡ false → (if t then x else y) ≡ y
if_false true x y e = absurd (true_false _ refl e)
if_false false x y e = refl

if_none : (t : Bool) (x y : List ℕ) → x ≡ [] → y ≡ [] → (if t then x else y) ≡ []
if_none true x y e f = e
if_none false x y e f = f

and_false : (a b : Bool) → a ≡ false → (a && b) ≡ false
and_false a b e = ap (λ x. x && b) e

-- a character that passes a test that another doesn't pass isn't that one
other : (test : ℕ → Bool) (c k : ℕ) → test c ≡ false → IsTrue (test k) → (c == k) ≡ false
other test c k e h = by_test (c == k) refl where
  by_test : (t : Bool) → (c == k) ≡ t → t ≡ false
  by_test true q = absurd (true_false (test k) h (subst (λ x. test x ≡ false) (eqb-true c k q) e))
  by_test false q = refl

-- ---- a character with which no longer punctuator begins

apart : (b : ℕ) (xs : List ℕ) → IsTrue (is_among b alone) → IsTrue (list_all (λ x. not (is_among x xs)) alone) → is_among b xs ≡ false
apart b xs h k = no (is_among b xs) (from_list (λ x. not (is_among x xs)) alone b k h) where
  no : (a : Bool) → IsTrue (not a) → a ≡ false
  no true h = absurd (true_false _ h refl)
  no false h = refl

apart_if : (t : Bool) (b : ℕ) (xs ys : List ℕ) → is_among b xs ≡ false → is_among b ys ≡ false → is_among b (if t then xs else ys) ≡ false
apart_if true b xs ys e f = e
apart_if false b xs ys e f = f

alone_pair : (b c : ℕ) → IsTrue (is_among b alone) → is_pair b c ≡ false
alone_pair b c h =
    apart_if (c == 61) b _ _ (apart b (codes "<>=!+-*%&|^/") h refl) (apart_if (c == 62) b _ _ (apart b (codes "=>") h refl) (apart_if (c == 46) b _ _ (apart b (codes "?") h refl)
    (apart_if (c == 43) b _ _ (apart b (codes "+") h refl) (apart_if (c == 45) b _ _ (apart b (codes "-") h refl) (apart_if (c == 42) b _ _ (apart b (codes "*") h refl)
    (apart_if (c == 60) b _ _ (apart b (codes "<") h refl) (apart_if (c == 38) b _ _ (apart b (codes "&") h refl) (apart_if (c == 124) b _ _ (apart b (codes "|") h refl)
    (apart_if (c == 63) b _ _ (apart b (codes "?") h refl) refl)))))))))

alone_triple : (b c d : ℕ) → IsTrue (is_among b alone) → is_triple b c d ≡ false
alone_triple b c d h =
    apart_if (d == 61) b _ _ (apart_if (c == 61) b _ _ (apart b (codes "=!") h refl) (apart_if (c == 42) b _ _ (apart b (codes "*") h refl) (apart_if (c == 60) b _ _ (apart b (codes "<") h refl)
    (apart_if (c == 62) b _ _ (apart b (codes ">") h refl) (apart_if (c == 38) b _ _ (apart b (codes "&") h refl) (apart_if (c == 124) b _ _ (apart b (codes "|") h refl)
    (apart_if (c == 63) b _ _ (apart b (codes "?") h refl) refl)))))))
    (apart_if (d == 46) b _ _ (apart_if (c == 46) b _ _ (apart b (codes ".") h refl) refl) (apart_if (d == 62) b _ _ (apart_if (c == 62) b _ _ (apart b (codes ">") h refl) refl) refl))

alone_no : (b k : ℕ) → IsTrue (is_among b alone) → IsTrue (list_all (λ x. not (x == k)) alone) → (b == k) ≡ false
alone_no b k h l = no (b == k) (from_list (λ x. not (x == k)) alone b l h) where
  no : (a : Bool) → IsTrue (not a) → a ≡ false
  no true h = absurd (true_false _ h refl)
  no false h = refl

pub found_alone : (text : List ℕ) (at b p : ℕ) → IsUtf8 text → Looks text at b p → is_among b alone ≡ true → IsWordAt Punctuator text at p
found_alone text at b p u f h =
    let two = seen_at text p u f.place in
    let three = seen_at text two.stop u two.looks.place in
    let four = seen_at text three.stop u three.looks.place in
    found_one text at b two.c three.c four.c p two.stop three.stop four.stop (record { one = f; two = two.looks; three = three.looks; four = four.looks })
    (quad (b == 62) (two.c == 62) ((three.c == 62) && (four.c == 61)) (alone_no b 62 h refl)) (alone_triple b two.c three.c h) (and_false (is_pair b two.c) _ (alone_pair b two.c h))
    (single (is_single b) (b == 46) (is_decimal_digit two.c) (from_list is_single alone b refl h) (alone_no b 46 h refl)) where
      quad : (x y z : Bool) → x ≡ false → ((x && y) && z) ≡ false
      quad x y z e = grind (arith, nat_tests)

      single : (x y z : Bool) → IsTrue x → y ≡ false → (x && not (y && z)) ≡ true
      single x y z h e = grind (arith, nat_tests)

-- ---- a character that none follows with which a longer one goes on

stops_pair : (b c : ℕ) → goes_on c ≡ false → is_pair b c ≡ false
stops_pair b c h =
    let n : (k : ℕ) → IsTrue (goes_on k) → (c == k) ≡ false = λ k l. other goes_on c k h l in
    ap (is_among b) (if_false (c == 61) _ _ (n 61 refl) ∙ if_false (c == 62) _ _ (n 62 refl) ∙ if_false (c == 46) _ _ (n 46 refl) ∙ if_false (c == 43) _ _ (n 43 refl) ∙ if_false (c == 45) _ _ (n 45 refl)
    ∙ if_false (c == 42) _ _ (n 42 refl) ∙ if_false (c == 60) _ _ (n 60 refl) ∙ if_false (c == 38) _ _ (n 38 refl) ∙ if_false (c == 124) _ _ (n 124 refl) ∙ if_false (c == 63) _ _ (n 63 refl))

stops_triple : (b c d : ℕ) → goes_on c ≡ false → is_triple b c d ≡ false
stops_triple b c d h =
    let n : (k : ℕ) → IsTrue (goes_on k) → (c == k) ≡ false = λ k l. other goes_on c k h l in
    ap (is_among b) (if_none (d == 61) _ _ (if_false (c == 61) _ _ (n 61 refl) ∙ if_false (c == 42) _ _ (n 42 refl) ∙ if_false (c == 60) _ _ (n 60 refl) ∙ if_false (c == 62) _ _ (n 62 refl)
    ∙ if_false (c == 38) _ _ (n 38 refl) ∙ if_false (c == 124) _ _ (n 124 refl) ∙ if_false (c == 63) _ _ (n 63 refl))
    (if_none (d == 46) _ _ (if_false (c == 46) _ _ (n 46 refl)) (if_none (d == 62) _ _ (if_false (c == 62) _ _ (n 62 refl)) refl)))

pub found_plain : (text : List ℕ) (at b c p q : ℕ) → IsUtf8 text → Looks text at b p → Looks text p c q → is_single b ≡ true → goes_on c ≡ false → IsWordAt Punctuator text at p
found_plain text at b c p q u f g s h =
    let three = seen_at text q u g.place in
    let four = seen_at text three.stop u three.looks.place in
    found_one text at b c three.c four.c p q three.stop four.stop (record { one = f; two = g; three = three.looks; four = four.looks })
    (quad (b == 62) (c == 62) ((three.c == 62) && (four.c == 61)) (other goes_on c 62 h refl)) (stops_triple b c three.c h) (and_false (is_pair b c) _ (stops_pair b c h))
    (single (is_single b) (b == 46) (is_decimal_digit c) s (digit (is_decimal_digit c) (one_of "=>.+-*<&|?" c) h)) where
      quad : (x y z : Bool) → y ≡ false → ((x && y) && z) ≡ false
      quad x y z e = grind (arith, nat_tests)

      single : (x y z : Bool) → x ≡ true → z ≡ false → (x && not (y && z)) ≡ true
      single x y z h e = grind (arith, nat_tests)

      digit : (x y : Bool) → (x || y) ≡ false → x ≡ false
      digit x y h = grind (arith, nat_tests)
