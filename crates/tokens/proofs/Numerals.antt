-- Numbers: what is read greedily is the longest, and nothing but it can stand there.
use Rattle.std.proofs.Common.{◌≡◌, ℕ, ◌<◌, Bool, true, false, not, ◌&&◌, ◌||◌, List, [], ◌∷◌, ◌++◌, IsTrue, IsFalse, refl, sym, ap, ◌∙◌, subst, arith, if◌then◌else◌}
use Rattle.std.specs.Char.{is_ascii_alphabetic}
use Rattle.std.proofs.lemmas.Bool.Decides.{nat_tests}
use Rattle.unicode_ident.specs.Ident.{is_xid_start}
use Rattle.unicode_ident.proofs.IdentLemmas.{is_xid_start-ascii}
use Rattle.tokens.specs.Alphabet.{one_of, is_identifier_start, is_decimal_digit}
use Rattle.tokens.specs.Numbers.{binary, octal, hexadecimal, Numeral, unread, zero_read, integer, leading_point, point, fraction, exponent_mark, exponent_sign, exponent, prefix, digits, integer_separator, fraction_separator, exponent_separator, digits_separator, suffix, no_numeral, is_digit_of, next_numeral, is_complete, numeral_after}
use Rattle.tokens.specs.Lexical.{NumericLiteral, is_at, none_longer, ends_well, is_token}
use Rattle.tokens.specs.States.{is_dead}
use Rattle.tokens.specs.Reading.{behind}
use Rattle.tokens.specs.Scanned.{Passed, IsWordAt, NoWordAt}
use Rattle.source_text.specs.Source.{IsPlace}
use Rattle.tokens.proofs.PassedCharacters.{passed_none, passed_on}
use Rattle.tokens.proofs.Beginnings.{true_false}
use Rattle.tokens.proofs.Longest.{none_is_longer}
use Rattle.tokens.proofs.Classes.{dead_stays}
use Rattle.tokens.proofs.Automata.{only_greedy}

pub behind_append : (s : Numeral) (v w : List ℕ) → numeral_after s (v ++ w) ≡ numeral_after (numeral_after s v) w
behind_append s [] w = refl
behind_append s (c ∷ v) w = behind_append (next_numeral s c) v w

pub dead_is : (s : Numeral) → IsTrue (is_dead s) → s ≡ no_numeral
dead_is no_numeral h = refl
dead_is unread h = absurd (true_false _ h refl)
dead_is zero_read h = absurd (true_false _ h refl)
dead_is integer h = absurd (true_false _ h refl)
dead_is leading_point h = absurd (true_false _ h refl)
dead_is point h = absurd (true_false _ h refl)
dead_is fraction h = absurd (true_false _ h refl)
dead_is exponent_mark h = absurd (true_false _ h refl)
dead_is exponent_sign h = absurd (true_false _ h refl)
dead_is exponent h = absurd (true_false _ h refl)
dead_is (prefix b) h = absurd (true_false _ h refl)
dead_is (digits b) h = absurd (true_false _ h refl)
dead_is integer_separator h = absurd (true_false _ h refl)
dead_is fraction_separator h = absurd (true_false _ h refl)
dead_is exponent_separator h = absurd (true_false _ h refl)
dead_is (digits_separator b) h = absurd (true_false _ h refl)
dead_is suffix h = absurd (true_false _ h refl)

dead_on : (s : Numeral) (w : List ℕ) → IsTrue (is_dead s) → IsTrue (is_dead (numeral_after s w))
dead_on s w h = subst (λ x. IsTrue (is_dead (numeral_after x w))) (sym (dead_is s h)) (ap is_dead (dead_stays w))

complete_alive : (s : Numeral) → IsTrue (is_complete s) → IsFalse (is_dead s)
complete_alive no_numeral h = absurd (true_false _ h refl)
complete_alive unread h = refl
complete_alive zero_read h = refl
complete_alive integer h = refl
complete_alive leading_point h = refl
complete_alive point h = refl
complete_alive fraction h = refl
complete_alive exponent_mark h = refl
complete_alive exponent_sign h = refl
complete_alive exponent h = refl
complete_alive (prefix b) h = refl
complete_alive (digits b) h = refl
complete_alive integer_separator h = refl
complete_alive fraction_separator h = refl
complete_alive exponent_separator h = refl
complete_alive (digits_separator b) h = refl
complete_alive suffix h = refl

-- the letters that go on with a number without completing one, and the separator
letter : (c : ℕ) → IsTrue (one_of "bBoOxXeE" c) → IsTrue (is_identifier_start c)
letter c h = starts c (is_xid_start c) (is_xid_start-ascii c (small c h)) h where
  small : (c : ℕ) → IsTrue (one_of "bBoOxXeE" c) → c < 128
  small c h = grind (arith, nat_tests)

  starts : (c : ℕ) (x : Bool) → x ≡ is_ascii_alphabetic c → IsTrue (one_of "bBoOxXeE" c) → IsTrue (one_of "$_" c || x)
  starts c x e h = grind (arith, nat_tests)

separator : (c : ℕ) → one_of "_" c ≡ true → IsTrue (is_identifier_start c)
separator c h = starts c (is_xid_start c) h where
  starts : (c : ℕ) (x : Bool) → one_of "_" c ≡ true → IsTrue (one_of "$_" c || x)
  starts c x h = grind (arith, nat_tests)

-- behind a whole number a character ends it, completes a longer one, or is one that may not follow
abbrev pub ends_or_goes_on : Numeral → ℕ → Bool
ends_or_goes_on s c = is_dead s || is_complete s || is_identifier_start c

integer_kind : (c : ℕ) (a b d : Bool) → (b ≡ true → IsTrue (is_identifier_start c)) →
    IsTrue (ends_or_goes_on (if a then point else if b then exponent_mark else if d then suffix else no_numeral) c)
integer_kind c true b d f = refl
integer_kind c false true d f = f refl
integer_kind c false false true f = refl
integer_kind c false false false f = refl

exponent_letter : (c : ℕ) → one_of "eE" c ≡ true → IsTrue (one_of "bBoOxXeE" c)
exponent_letter c h = grind (arith, nat_tests)

nought_kind : (c : ℕ) (a b d : Bool) → (a ≡ true → IsTrue (is_identifier_start c)) → (b ≡ true → IsTrue (is_identifier_start c)) → (d ≡ true → IsTrue (is_identifier_start c)) →
    IsTrue (ends_or_goes_on (if a then prefix binary else if b then prefix octal else if d then prefix hexadecimal else if one_of "." c then point else if one_of "eE" c then exponent_mark else if one_of "n" c then suffix else no_numeral) c)
nought_kind c true b d f g h = f refl
nought_kind c false true d f g h = g refl
nought_kind c false false true f g h = h refl
nought_kind c false false false f g h = integer_kind c (one_of "." c) (one_of "eE" c) (one_of "n" c) (λ e. letter c (exponent_letter c e))

prefix_letter_b : (c : ℕ) → one_of "bB" c ≡ true → IsTrue (one_of "bBoOxXeE" c)
prefix_letter_b c h = grind (arith, nat_tests)

prefix_letter_o : (c : ℕ) → one_of "oO" c ≡ true → IsTrue (one_of "bBoOxXeE" c)
prefix_letter_o c h = grind (arith, nat_tests)

prefix_letter_x : (c : ℕ) → one_of "xX" c ≡ true → IsTrue (one_of "bBoOxXeE" c)
prefix_letter_x c h = grind (arith, nat_tests)

fraction_kind : (c : ℕ) (a b : Bool) → (b ≡ true → IsTrue (is_identifier_start c)) → IsTrue (ends_or_goes_on (if a then fraction else if b then exponent_mark else no_numeral) c)
fraction_kind c true b f = refl
fraction_kind c false true f = f refl
fraction_kind c false false f = refl

pub whole_kind : (s : Numeral) (c : ℕ) → IsTrue (is_complete s) → IsTrue (ends_or_goes_on (next_numeral s c) c)
whole_kind zero_read c h = nought_kind c (one_of "bB" c) (one_of "oO" c) (one_of "xX" c) (λ e. letter c (prefix_letter_b c e)) (λ e. letter c (prefix_letter_o c e)) (λ e. letter c (prefix_letter_x c e))
whole_kind integer c h = at_integer (is_decimal_digit c) (one_of "_" c) (separator c) where
  at_integer : (a u : Bool) → (u ≡ true → IsTrue (is_identifier_start c)) →
      IsTrue (ends_or_goes_on (if a then integer else if u then integer_separator else if one_of "." c then point else if one_of "eE" c then exponent_mark else if one_of "n" c then suffix else no_numeral) c)
  at_integer true u f = refl
  at_integer false true f = f refl
  at_integer false false f = integer_kind c (one_of "." c) (one_of "eE" c) (one_of "n" c) (λ e. letter c (exponent_letter c e))
whole_kind point c h = fraction_kind c (is_decimal_digit c) (one_of "eE" c) (λ e. letter c (exponent_letter c e))
whole_kind fraction c h = at_fraction (one_of "_" c) (separator c) where
  at_fraction : (u : Bool) → (u ≡ true → IsTrue (is_identifier_start c)) →
      IsTrue (ends_or_goes_on (if u then fraction_separator else if is_decimal_digit c then fraction else if one_of "eE" c then exponent_mark else no_numeral) c)
  at_fraction true f = f refl
  at_fraction false f = fraction_kind c (is_decimal_digit c) (one_of "eE" c) (λ e. letter c (exponent_letter c e))
whole_kind exponent c h = at_exponent (is_decimal_digit c) (one_of "_" c) (separator c) where
  at_exponent : (a u : Bool) → (u ≡ true → IsTrue (is_identifier_start c)) → IsTrue (ends_or_goes_on (if a then exponent else if u then exponent_separator else no_numeral) c)
  at_exponent true u f = refl
  at_exponent false true f = f refl
  at_exponent false false f = refl
whole_kind (digits base) c h = at_digits (is_digit_of base c) (one_of "n" c) (one_of "_" c) (separator c) where
  at_digits : (a b u : Bool) → (u ≡ true → IsTrue (is_identifier_start c)) →
      IsTrue (ends_or_goes_on (if a then digits base else if b then suffix else if u then digits_separator base else no_numeral) c)
  at_digits true b u f = refl
  at_digits false true u f = refl
  at_digits false false true f = f refl
  at_digits false false false f = refl
whole_kind suffix c h = refl
whole_kind unread c h = absurd (true_false _ h refl)
whole_kind leading_point c h = absurd (true_false _ h refl)
whole_kind exponent_mark c h = absurd (true_false _ h refl)
whole_kind exponent_sign c h = absurd (true_false _ h refl)
whole_kind (prefix base) c h = absurd (true_false _ h refl)
whole_kind integer_separator c h = absurd (true_false _ h refl)
whole_kind fraction_separator c h = absurd (true_false _ h refl)
whole_kind exponent_separator c h = absurd (true_false _ h refl)
whole_kind (digits_separator base) c h = absurd (true_false _ h refl)
whole_kind no_numeral c h = absurd (true_false _ h refl)

-- ---- a number is complete, and the next character ends it

pub number_complete : (w r : List ℕ) → IsTrue (is_token NumericLiteral w r) → IsTrue (is_complete (numeral_after unread w))
number_complete w r h = first (is_complete (numeral_after unread w)) (none_longer NumericLiteral w r) (ends_well NumericLiteral r) h where
  first : (a n e : Bool) → IsTrue (((a && true) && n) && e) → IsTrue a
  first a n e h = grind (arith, nat_tests)

number_stuck : (w : List ℕ) (x : ℕ) (r : List ℕ) → IsTrue (is_token NumericLiteral w (x ∷ r)) → IsTrue (is_dead (numeral_after unread (w ++ x ∷ [])))
number_stuck w x r h =
    decide (is_dead next_state) (is_complete next_state) (is_identifier_start x) (is_decimal_digit x) (is_complete (numeral_after unread w)) (none_longer NumericLiteral (w ++ x ∷ []) r)
    (subst (λ s. IsTrue (ends_or_goes_on s x)) (sym (behind_append unread w (x ∷ []))) (whole_kind (numeral_after unread w) x (number_complete w (x ∷ r) h))) h where
      next_state : Numeral
      next_state = numeral_after unread (w ++ x ∷ [])

      decide : (dead complete start digit a n : Bool) → IsTrue (dead || complete || start) → IsTrue (((a && true) && (not (complete && true) && n)) && not (start || digit)) → IsTrue dead
      decide dead complete start digit a n h k = grind (arith, nat_tests)

-- ---- the turns of the loop

pub record InNumber (text : List ℕ) (at stop : ℕ) (state : Numeral) : Type 0 where
  pub word : List ℕ
  pub passed : Passed text at stop word
  pub read : numeral_after unread word ≡ state
  pub alive : IsFalse (is_dead state)

pub number_starts : (text : List ℕ) (at : ℕ) → IsPlace text at → InNumber text at at unread
number_starts text at p = record { word = []; passed = passed_none text at p; read = refl; alive = refl }

pub number_goes_on : (text : List ℕ) (at stop more c : ℕ) (state new : Numeral) → InNumber text at stop state → Passed text stop more (c ∷ []) → new ≡ next_numeral state c →
    is_dead new ≡ false → InNumber text at more new
number_goes_on text at stop more c state new h p e a =
    record {
      word = h.word ++ c ∷ [];
      passed = passed_on text at stop more h.word (c ∷ []) h.passed p;
      read = behind_append unread h.word (c ∷ []) ∙ ap (λ s. next_numeral s c) h.read ∙ sym e;
      alive = a;
    }

whole_number : (w rest : List ℕ) → IsTrue (is_complete (numeral_after unread w)) → IsTrue (none_longer NumericLiteral w rest) → IsTrue (ends_well NumericLiteral rest) → IsTrue (is_token NumericLiteral w rest)
whole_number w rest a b d = all (is_complete (numeral_after unread w)) (none_longer NumericLiteral w rest) (ends_well NumericLiteral rest) a b d where
  all : (a n e : Bool) → IsTrue a → IsTrue n → IsTrue e → IsTrue (((a && true) && n) && e)
  all a n e h k l = grind (arith, nat_tests)

-- a character ends it
pub number_found : (text : List ℕ) (at stop more c : ℕ) (state : Numeral) → InNumber text at stop state → Passed text stop more (c ∷ []) → is_dead (next_numeral state c) ≡ true →
    is_complete state ≡ true → (is_identifier_start c || is_decimal_digit c) ≡ false → IsWordAt NumericLiteral text at stop
number_found text at stop more c state h p d k b =
    record {
      word = h.word;
      passed = h.passed;
      longest = subst (λ x. IsTrue (is_token NumericLiteral h.word x)) (sym p.split)
          (whole_number h.word (c ∷ behind text more) (ap is_complete h.read ∙ k) (none_is_longer NumericLiteral h.word (c ∷ behind text more) none) (ap not b));
    } where
      no : (a : Bool) → a ≡ false → IsFalse (a && true)
      no a e = grind (arith, nat_tests)

      none : (x : ℕ) (xs r : List ℕ) → c ∷ behind text more ≡ x ∷ xs ++ r → IsFalse (is_at NumericLiteral (h.word ++ x ∷ xs) r)
      none x xs r e =
          let q : c ≡ x = cc in
          let s : numeral_after unread (h.word ++ x ∷ xs) ≡ numeral_after (next_numeral state c) xs =
          behind_append unread h.word (x ∷ xs) ∙ ap (λ s. numeral_after (next_numeral s x) xs) h.read ∙ ap (λ y. numeral_after (next_numeral state y) xs) (sym q) in
          let z : numeral_after (next_numeral state c) xs ≡ no_numeral = ap (λ s. numeral_after s xs) (dead_is _ d) ∙ dead_stays xs in
          no _ (ap is_complete (s ∙ z))

-- the text ends behind it
pub number_found_end : (text : List ℕ) (at stop : ℕ) (state : Numeral) → InNumber text at stop state → behind text stop ≡ [] → is_complete state ≡ true → IsWordAt NumericLiteral text at stop
number_found_end text at stop state h e k =
    record {
      word = h.word;
      passed = h.passed;
      longest = subst (λ x. IsTrue (is_token NumericLiteral h.word x)) (sym e) (whole_number h.word [] (ap is_complete h.read ∙ k) refl refl);
    }

only_word : (text : List ℕ) (at stop : ℕ) (state : Numeral) (h : InNumber text at stop state) → ((x : ℕ) (r : List ℕ) → behind text stop ≡ x ∷ r → IsTrue (is_dead (next_numeral state x))) →
    (w r : List ℕ) → behind text at ≡ w ++ r → IsTrue (is_token NumericLiteral w r) → IsTrue (is_token NumericLiteral h.word (behind text stop))
only_word text at stop state h stops w r e k =
    only_greedy numeral_after is_dead (λ x y. IsTrue (is_token NumericLiteral x y)) unread behind_append dead_on (λ x y t. complete_alive _ (number_complete x y t)) number_stuck
    h.word (behind text stop) (subst (λ s. IsFalse (is_dead s)) (sym h.read) h.alive)
    (λ x rest q. subst (λ s. IsTrue (is_dead s)) (sym (behind_append unread h.word (x ∷ []) ∙ ap (λ s. next_numeral s x) h.read)) (stops x rest q)) w r (sym h.passed.split ∙ e) k

-- none where a character ends what is no whole number, or one that may not follow
pub no_number : (text : List ℕ) (at stop more c : ℕ) (state : Numeral) → InNumber text at stop state → Passed text stop more (c ∷ []) → is_dead (next_numeral state c) ≡ true →
    (is_complete state && not (is_identifier_start c || is_decimal_digit c)) ≡ false → NoWordAt NumericLiteral text at
no_number text at stop more c state h p d b = λ w r e k.
    let t = only_word text at stop state h (λ x rest q. let z : x ≡ c = (let u = sym q ∙ p.split in cc) in subst (λ y. IsTrue (is_dead (next_numeral state y))) (sym z) d) w r e k in
    refuse (is_complete (numeral_after unread h.word)) (is_complete state) (is_identifier_start c) (is_decimal_digit c) (none_longer NumericLiteral h.word (c ∷ behind text more)) (ap is_complete h.read) b
    (subst (λ x. IsTrue (is_token NumericLiteral h.word x)) p.split t) where
      refuse : (a a' s g n : Bool) → a ≡ a' → (a' && not (s || g)) ≡ false → IsTrue (((a && true) && n) && not (s || g)) → ⊥
      refuse a a' s g n e f h = grind (arith, nat_tests)

pub no_number_end : (text : List ℕ) (at stop : ℕ) (state : Numeral) → InNumber text at stop state → behind text stop ≡ [] → is_complete state ≡ false → NoWordAt NumericLiteral text at
no_number_end text at stop state h q b = λ w r e k.
    let t = only_word text at stop state h (λ x rest z. (let u = sym q ∙ z in cc)) w r e k in
    true_false _ (number_complete h.word (behind text stop) t) (ap is_complete h.read ∙ b)
