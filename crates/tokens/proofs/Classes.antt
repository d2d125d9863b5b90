-- No class but one fits what stands at a place: the first character decides, and the second behind a point.
use Rattle.std.proofs.Common.{◌≡◌, ℕ, ◌<◌, ◌≤◌, Bool, true, false, not, ◌&&◌, ◌||◌, ◌==◌, List, [], ◌∷◌, ◌++◌, IsTrue, IsFalse, refl, sym, ap, subst, arith, inl, inr, ◌⊎◌, if◌then◌else◌, codes}
use Prim.Native.String.{String}
use Rattle.std.specs.List.{list_all}
use Rattle.std.specs.Str.{bytes_eq}
use Rattle.std.specs.Char.{is_ascii_alphabetic}
use Rattle.std.proofs.lemmas.Bool.{cases_lt, cases_Bool, eqb-true}
use Rattle.std.proofs.lemmas.Bool.Decides.{nat_tests}
use Rattle.unicode_ident.proofs.IdentLemmas.{is_xid_start-ascii}
use Rattle.tokens.specs.Alphabet.{one_of, is_empty, begins_with, is_identifier_start, is_decimal_digit}
use Rattle.tokens.specs.Lexical.{LexicalClass, IdentifierName, Punctuator, NumericLiteral, StringLiteral, Template, PrivateName, Keyword, End, is_name, is_one_of_words, punctuators, is_of, may_stand, none_longer, ends_well, is_token}
use Rattle.tokens.specs.Numbers.{zero_read, integer, leading_point, fraction, no_numeral, numeral_after, is_complete, is_number}
use Rattle.tokens.specs.Alphabet.{is_non_zero_digit, is_identifier_part}
use Rattle.tokens.specs.Strings.{closes_string}
use Rattle.tokens.specs.Templates.{closes_template}
use Rattle.tokens.specs.RegularExpressions.{opened, expression_after, has_flags}
use Rattle.tokens.specs.Goals.{Goal, Div, TemplateTail, allows, reads_regexps, reads_template_parts}
use Rattle.std.proofs.lemmas.Slice.Eq.{bytes_eq-Decides}
use Rattle.tokens.specs.TokenStarts.{is_mark, class_of}
use Rattle.tokens.proofs.Beginnings.{true_false}

-- a character of an identifier's start is none with which a token of another class begins
abbrev pub is_special : ℕ → Bool
is_special c = is_decimal_digit c || one_of "'\"" c || one_of "`" c || one_of "}" c || one_of "/" c || one_of "." c || one_of "#" c || is_mark c

pub start_plain : (c : ℕ) → IsTrue (is_identifier_start c) → IsFalse (is_special c)
start_plain c h =
    elim (cases_lt c 128) [
      | inl lt ↦ ascii c _ lt (is_xid_start-ascii c lt) h
      | inr ge ↦ far c ge
    ] where
      ascii : (c : ℕ) (x : Bool) → c < 128 → x ≡ is_ascii_alphabetic c → IsTrue (one_of "$_" c || x) → IsFalse (is_special c)
      ascii c x lt e h = grind (arith, nat_tests)

      far : (c : ℕ) → 128 ≤ c → IsFalse (is_special c)
      far c ge = grind (arith, nat_tests)

-- ---- what a token is, apart from what stands behind it

pub token_is : (class : LexicalClass) (word rest : List ℕ) → IsTrue (is_token class word rest) → IsTrue (is_of class word)
token_is class word rest h = first (is_of class word) (may_stand class word rest) (none_longer class word rest) (ends_well class rest) h where
  first : (a b d e : Bool) → IsTrue (((a && b) && d) && e) → IsTrue a
  first a b d e h = grind (arith, nat_tests)

pub token_may : (class : LexicalClass) (word rest : List ℕ) → IsTrue (is_token class word rest) → IsTrue (may_stand class word rest)
token_may class word rest h = second (is_of class word) (may_stand class word rest) (none_longer class word rest) (ends_well class rest) h where
  second : (a b d e : Bool) → IsTrue (((a && b) && d) && e) → IsTrue b
  second a b d e h = grind (arith, nat_tests)

-- a test that all words of a list pass
abbrev pub all_words : (List ℕ → Bool) → List String → Bool
all_words test [] = true
all_words test (w ∷ ws) = test (codes w) && all_words test ws

pub words_all : (ws : List String) (test : List ℕ → Bool) (text : List ℕ) → IsTrue (all_words test ws) → IsTrue (is_one_of_words ws text) → IsTrue (test text)
words_all [] test text h k = absurd (true_false _ k refl)
words_all (w ∷ ws) test text h k =
    here (bytes_eq text (codes w)) (test (codes w)) refl (λ e. (bytes_eq-Decides text (codes w)).0 e) h k (λ a b. words_all ws test text a b) where
      here : (a b : Bool) → b ≡ test (codes w) → (a ≡ true → text ≡ codes w) → IsTrue (b && all_words test ws) → IsTrue (a || is_one_of_words ws text) →
          (IsTrue (all_words test ws) → IsTrue (is_one_of_words ws text) → IsTrue (test text)) → IsTrue (test text)
      here a false e f h k g = absurd (true_false _ h refl)
      here false true e f h k g = g h k
      here true true e f h k g = subst (λ x. IsTrue (test x)) (sym (f refl)) (sym e)

-- ---- each class begins as `class_of` says

none_of : (a b d e f g n h : Bool) (r t m : LexicalClass) → IsFalse (a || b || d || e || f || g || n || h) →
    IdentifierName ≡ (if a then NumericLiteral else if b then StringLiteral else if d then Template else if e then t else if f then r else if g then m else if n then PrivateName else if h then Punctuator else IdentifierName)
none_of false false false false false false false false r t m k = refl
none_of false false false false false false false true r t m k = absurd (true_false _ refl k)
none_of false false false false false false true h r t m k = absurd (true_false _ refl k)
none_of false false false false false true n h r t m k = absurd (true_false _ refl k)
none_of false false false false true g n h r t m k = absurd (true_false _ refl k)
none_of false false false true f g n h r t m k = absurd (true_false _ refl k)
none_of false false true e f g n h r t m k = absurd (true_false _ refl k)
none_of false true d e f g n h r t m k = absurd (true_false _ refl k)
none_of true b d e f g n h r t m k = absurd (true_false _ refl k)

mark_of : (a b d e f g n h : Bool) (r t m z : LexicalClass) → IsFalse (a || b || d || e || f || g || n) → IsTrue h →
    Punctuator ≡ (if a then NumericLiteral else if b then StringLiteral else if d then Template else if e then t else if f then r else if g then m else if n then PrivateName else if h then Punctuator else z)
mark_of false false false false false false false true r t m z k l = refl
mark_of false false false false false false false false r t m z k l = absurd (true_false _ l refl)
mark_of false false false false false false true h r t m z k l = absurd (true_false _ refl k)
mark_of false false false false false true n h r t m z k l = absurd (true_false _ refl k)
mark_of false false false false true g n h r t m z k l = absurd (true_false _ refl k)
mark_of false false false true f g n h r t m z k l = absurd (true_false _ refl k)
mark_of false false true e f g n h r t m z k l = absurd (true_false _ refl k)
mark_of false true d e f g n h r t m z k l = absurd (true_false _ refl k)
mark_of true b d e f g n h r t m z k l = absurd (true_false _ refl k)

pub name_class : (goal : Goal) (c : ℕ) (cs : List ℕ) → IsTrue (is_identifier_start c) → IdentifierName ≡ class_of goal (c ∷ cs)
name_class goal c cs h =
    none_of (is_decimal_digit c) (one_of "'\"" c) (one_of "`" c) (one_of "}" c) (one_of "/" c) (one_of "." c) (one_of "#" c) (is_mark c)
    (if reads_regexps goal then LexicalClass.RegularExpressionLiteral else Punctuator) (if reads_template_parts goal then Template else Punctuator) (if begins_with is_decimal_digit cs then NumericLiteral else Punctuator) (start_plain c h)

pub mark_class : (goal : Goal) (c : ℕ) (cs : List ℕ) → IsTrue (is_mark c) → Punctuator ≡ class_of goal (c ∷ cs)
mark_class goal c cs h =
    mark_of (is_decimal_digit c) (one_of "'\"" c) (one_of "`" c) (one_of "}" c) (one_of "/" c) (one_of "." c) (one_of "#" c) (is_mark c)
    (if reads_regexps goal then LexicalClass.RegularExpressionLiteral else Punctuator) (if reads_template_parts goal then Template else Punctuator) (if begins_with is_decimal_digit cs then NumericLiteral else Punctuator) IdentifierName (others c h) h where
      others : (c : ℕ) → IsTrue (is_mark c) → IsFalse (is_decimal_digit c || one_of "'\"" c || one_of "`" c || one_of "}" c || one_of "/" c || one_of "." c || one_of "#" c)
      others c h = grind (arith, nat_tests)

pub dead_stays : (cs : List ℕ) → numeral_after no_numeral cs ≡ no_numeral
dead_stays [] = refl
dead_stays (c ∷ cs) = dead_stays cs

-- a number begins with a digit, or with a point and a digit
pub number_begins : (c : ℕ) (cs : List ℕ) → IsTrue (is_number (c ∷ cs)) → IsTrue (is_decimal_digit c || (one_of "." c && begins_with is_decimal_digit cs))
number_begins c cs h = by_first (one_of "0" c) (is_non_zero_digit c) (one_of "." c) refl refl refl h where
  zero_digit : (c : ℕ) (x : Bool) → one_of "0" c ≡ true → IsTrue (is_decimal_digit c || x)
  zero_digit c x h = grind (arith, nat_tests)

  other_digit : (c : ℕ) (x : Bool) → is_non_zero_digit c ≡ true → IsTrue (is_decimal_digit c || x)
  other_digit c x h = grind (arith, nat_tests)

  point : (a b x : Bool) → a ≡ true → IsTrue x → IsTrue (b || (a && x))
  point a b x e h = grind (arith, nat_tests)

  no : (cs : List ℕ) → IsTrue (is_complete (numeral_after no_numeral cs)) → ⊥
  no cs h = true_false _ h (ap is_complete (dead_stays cs))

  behind_point : (cs : List ℕ) → IsTrue (is_complete (numeral_after leading_point cs)) → IsTrue (begins_with is_decimal_digit cs)
  behind_point [] h = absurd (true_false _ h refl)
  behind_point (d ∷ ds) h = digit (is_decimal_digit d) h where
    digit : (a : Bool) → IsTrue (is_complete (numeral_after (if a then fraction else no_numeral) ds)) → IsTrue a
    digit true h = refl
    digit false h = absurd (true_false _ h (ap is_complete (dead_stays ds)))

  by_first : (a b d : Bool) → one_of "0" c ≡ a → is_non_zero_digit c ≡ b → one_of "." c ≡ d →
      IsTrue (is_complete (numeral_after (if a then zero_read else if b then integer else if d then leading_point else no_numeral) cs)) →
      IsTrue (is_decimal_digit c || (one_of "." c && begins_with is_decimal_digit cs))
  by_first true b d e f g h = zero_digit c (one_of "." c && begins_with is_decimal_digit cs) e
  by_first false true d e f g h = other_digit c (one_of "." c && begins_with is_decimal_digit cs) f
  by_first false false true e f g h = point (one_of "." c) (is_decimal_digit c) (begins_with is_decimal_digit cs) g (behind_point cs h)
  by_first false false false e f g h = absurd (no cs h)

number_class : (goal : Goal) (c : ℕ) (cs : List ℕ) → IsTrue (is_decimal_digit c || (one_of "." c && begins_with is_decimal_digit cs)) → NumericLiteral ≡ class_of goal (c ∷ cs)
number_class goal c cs h = by_digit (is_decimal_digit c) refl h where
  point : (c : ℕ) (x : Bool) → IsTrue (false || (one_of "." c && x)) → (c ≡ 0x2E) × (x ≡ true)
  point c x h = (grind (arith, nat_tests), grind (arith, nat_tests))

  at_point : (b : Bool) → b ≡ true → NumericLiteral ≡ (if b then NumericLiteral else Punctuator)
  at_point true e = refl
  at_point false e = absurd (true_false true refl (sym e))

  by_digit : (a : Bool) → is_decimal_digit c ≡ a → IsTrue (a || (one_of "." c && begins_with is_decimal_digit cs)) → NumericLiteral ≡ class_of goal (c ∷ cs)
  by_digit true e h = digit (is_decimal_digit c) e _ where
    digit : (b : Bool) → b ≡ true → (x : LexicalClass) → NumericLiteral ≡ (if b then NumericLiteral else x)
    digit true e x = refl
    digit false e x = absurd (true_false true refl (sym e))
  by_digit false e h = let p = point c (begins_with is_decimal_digit cs) h in subst (λ x. NumericLiteral ≡ class_of goal (x ∷ cs)) (sym p.0) (at_point (begins_with is_decimal_digit cs) p.1)

-- where a number begins, by a point and a digit or by a digit
text_class : (goal : Goal) (c : ℕ) (cs : List ℕ) → IsTrue (one_of "'\"" c) → StringLiteral ≡ class_of goal (c ∷ cs)
text_class goal c cs h = by_quote (cases_Bool (c == 39)) where
  other : (c : ℕ) → (c == 39) ≡ false → IsTrue (one_of "'\"" c) → c ≡ 34
  other c e h = grind (arith, nat_tests)

  by_quote : ((c == 39) ≡ true) ⊎ ((c == 39) ≡ false) → StringLiteral ≡ class_of goal (c ∷ cs)
  by_quote (inl e) = subst (λ x. StringLiteral ≡ class_of goal (x ∷ cs)) (sym (eqb-true c 39 e)) refl
  by_quote (inr e) = subst (λ x. StringLiteral ≡ class_of goal (x ∷ cs)) (sym (other c e h)) refl

template_class : (goal : Goal) (c : ℕ) (cs : List ℕ) (word : List ℕ) → IsTrue (one_of "`}" c) → IsTrue (allows goal Template (c ∷ word)) → Template ≡ class_of goal (c ∷ cs)
template_class goal c cs word h k = by_mark (cases_Bool (c == 96)) where
  other : (c : ℕ) → (c == 96) ≡ false → IsTrue (one_of "`}" c) → c ≡ 125
  other c e h = grind (arith, nat_tests)

  by_goal : (goal : Goal) → IsTrue (allows goal Template (125 ∷ word)) → Template ≡ class_of goal (125 ∷ cs)
  by_goal Div k = absurd (true_false _ k refl)
  by_goal Goal.RegExp k = absurd (true_false _ k refl)
  by_goal TemplateTail k = refl

  by_mark : ((c == 96) ≡ true) ⊎ ((c == 96) ≡ false) → Template ≡ class_of goal (c ∷ cs)
  by_mark (inl e) = subst (λ x. Template ≡ class_of goal (x ∷ cs)) (sym (eqb-true c 96 e)) refl
  by_mark (inr e) =
      subst (λ x. Template ≡ class_of goal (x ∷ cs)) (sym (other c e h)) (by_goal goal (subst (λ x. IsTrue (allows goal Template (x ∷ word))) (other c e h) k))

regexp_class : (goal : Goal) (c : ℕ) (cs : List ℕ) (word : List ℕ) → IsTrue (one_of "/" c) → IsTrue (allows goal LexicalClass.RegularExpressionLiteral (c ∷ word)) →
    LexicalClass.RegularExpressionLiteral ≡ class_of goal (c ∷ cs)
regexp_class goal c cs word h k =
    let e = eqb-true c 47 h in
    subst (λ x. LexicalClass.RegularExpressionLiteral ≡ class_of goal (x ∷ cs)) (sym e) (by_goal goal (subst (λ x. IsTrue (allows goal LexicalClass.RegularExpressionLiteral (x ∷ word))) e k)) where
      by_goal : (goal : Goal) → IsTrue (allows goal LexicalClass.RegularExpressionLiteral (47 ∷ word)) → LexicalClass.RegularExpressionLiteral ≡ class_of goal (47 ∷ cs)
      by_goal Div k = absurd (true_false _ k refl)
      by_goal Goal.RegExp k = refl
      by_goal TemplateTail k = absurd (true_false _ k refl)

private_class : (goal : Goal) (c : ℕ) (cs : List ℕ) → IsTrue (one_of "#" c) → PrivateName ≡ class_of goal (c ∷ cs)
private_class goal c cs h = subst (λ x. PrivateName ≡ class_of goal (x ∷ cs)) (sym (eqb-true c 35 h)) refl

-- the words of punctuators that don't begin with a mark
abbrev pub starts_as_punctuator : List ℕ → Bool
starts_as_punctuator w = begins_with is_mark w || begins_with (one_of "}/") w || bytes_eq w (codes ".") || bytes_eq w (codes "...")

punctuator_class : (goal : Goal) (word rest : List ℕ) → IsTrue (is_one_of_words punctuators word) → IsTrue (may_stand Punctuator word rest) →
    IsTrue (allows goal Punctuator word) → Punctuator ≡ class_of goal (word ++ rest)
punctuator_class goal word rest h m k =
    by_start word (begins_with is_mark word) (begins_with (one_of "}/") word) (bytes_eq word (codes ".")) (bytes_eq word (codes "..."))
    refl refl (λ e. (bytes_eq-Decides word (codes ".")).0 e) (λ e. (bytes_eq-Decides word (codes "...")).0 e) (words_all punctuators starts_as_punctuator word refl h) m k where
      by_goal : (goal : Goal) (cs : List ℕ) (word : List ℕ) → IsTrue (allows goal Punctuator (47 ∷ word)) → Punctuator ≡ class_of goal (47 ∷ cs)
      by_goal Div cs word k = refl
      by_goal Goal.RegExp cs word k = absurd (true_false _ k refl)
      by_goal TemplateTail cs word k = refl

      by_goal_brace : (goal : Goal) (cs : List ℕ) (word : List ℕ) → IsTrue (allows goal Punctuator (125 ∷ word)) → Punctuator ≡ class_of goal (125 ∷ cs)
      by_goal_brace Div cs word k = refl
      by_goal_brace Goal.RegExp cs word k = refl
      by_goal_brace TemplateTail cs word k = absurd (true_false _ k refl)

      other : (c : ℕ) → (c == 47) ≡ false → one_of "}/" c ≡ true → c ≡ 125
      other c e h = grind (arith, nat_tests)

      slash_or_brace : (c : ℕ) (cs : List ℕ) → one_of "}/" c ≡ true → IsTrue (allows goal Punctuator (c ∷ cs)) → Punctuator ≡ class_of goal (c ∷ cs ++ rest)
      slash_or_brace c cs e k = by_mark (cases_Bool (c == 47)) where
        by_mark : ((c == 47) ≡ true) ⊎ ((c == 47) ≡ false) → Punctuator ≡ class_of goal (c ∷ cs ++ rest)
        by_mark (inl q) = subst (λ x. Punctuator ≡ class_of goal (x ∷ cs ++ rest)) (sym (eqb-true c 47 q)) (by_goal goal (cs ++ rest) cs (subst (λ x. IsTrue (allows goal Punctuator (x ∷ cs))) (eqb-true c 47 q) k))
        by_mark (inr q) =
            subst (λ x. Punctuator ≡ class_of goal (x ∷ cs ++ rest)) (sym (other c q e))
            (by_goal_brace goal (cs ++ rest) cs (subst (λ x. IsTrue (allows goal Punctuator (x ∷ cs))) (other c q e) k))

      point : (x : Bool) → IsTrue (not (true && x)) → Punctuator ≡ (if x then NumericLiteral else Punctuator)
      point true h = absurd (true_false _ h refl)
      point false h = refl

      by_start : (w : List ℕ) (a b d e : Bool) → begins_with is_mark w ≡ a → begins_with (one_of "}/") w ≡ b → (d ≡ true → w ≡ codes ".") → (e ≡ true → w ≡ codes "...") →
          IsTrue (a || b || d || e) → IsTrue (may_stand Punctuator w rest) → IsTrue (allows goal Punctuator w) → Punctuator ≡ class_of goal (w ++ rest)
      by_start [] false false false false p q f g h m k = absurd (true_false _ h refl)
      by_start [] true b d e p q f g h m k = absurd (true_false true refl (sym p))
      by_start [] false true d e p q f g h m k = absurd (true_false true refl (sym q))
      by_start [] false false true e p q f g h m k = let z : [] ≡ codes "." = f refl in cc
      by_start [] false false false true p q f g h m k = let z : [] ≡ codes "..." = g refl in cc
      by_start (c ∷ cs) true b d e p q f g h m k = mark_class goal c (cs ++ rest) p
      by_start (c ∷ cs) false true d e p q f g h m k = slash_or_brace c cs q k
      by_start (c ∷ cs) false false true e p q f g h m k =
          subst (λ x. Punctuator ≡ class_of goal (x ++ rest)) (sym (f refl)) (point (begins_with is_decimal_digit rest) (subst (λ x. IsTrue (may_stand Punctuator x rest)) (f refl) m))
      by_start (c ∷ cs) false false false true p q f g h m k = subst (λ x. Punctuator ≡ class_of goal (x ++ rest)) (sym (g refl)) refl
      by_start (c ∷ cs) false false false false p q f g h m k = absurd (true_false _ h refl)

-- the class that a goal reads in front of a text is the one that the first character names
pub class_fits : (goal : Goal) (class : LexicalClass) (word rest : List ℕ) → IsTrue (is_token class word rest) → IsTrue (allows goal class word) →
    class ≡ class_of goal (word ++ rest)
class_fits goal class word rest h k = by_class class word rest (token_is class word rest h) (token_may class word rest h) k where
  first_true : (a b : Bool) → IsTrue (a && b) → IsTrue a
  first_true a b h = grind (arith, nat_tests)

  ended : (rest : List ℕ) → IsTrue (is_empty rest) → End ≡ class_of goal rest
  ended [] h = refl
  ended (c ∷ cs) h = absurd (true_false _ h refl)

  by_class : (class : LexicalClass) (word rest : List ℕ) → IsTrue (is_of class word) → IsTrue (may_stand class word rest) → IsTrue (allows goal class word) → class ≡ class_of goal (word ++ rest)
  by_class IdentifierName [] rest h m k = absurd (true_false _ h refl)
  by_class IdentifierName (c ∷ cs) rest h m k = name_class goal c (cs ++ rest) (first_true (is_identifier_start c) (list_all is_identifier_part cs) h)
  by_class Punctuator word rest h m k = punctuator_class goal word rest h m k
  by_class NumericLiteral [] rest h m k = absurd (true_false _ h refl)
  by_class NumericLiteral (c ∷ cs) rest h m k = number_class goal c (cs ++ rest) (along (is_decimal_digit c) (one_of "." c) (number_begins c cs h) (λ b. begins_append is_decimal_digit cs rest b)) where
    begins_append : (test : ℕ → Bool) (v w : List ℕ) → IsTrue (begins_with test v) → IsTrue (begins_with test (v ++ w))
    begins_append test [] w h = absurd (true_false _ h refl)
    begins_append test (c ∷ v) w h = h

    along : (a b : Bool) → IsTrue (a || (b && begins_with is_decimal_digit cs)) → (IsTrue (begins_with is_decimal_digit cs) → IsTrue (begins_with is_decimal_digit (cs ++ rest))) →
        IsTrue (a || (b && begins_with is_decimal_digit (cs ++ rest)))
    along true b h f = refl
    along false true h f = f h
    along false false h f = h
  by_class StringLiteral [] rest h m k = absurd (true_false _ h refl)
  by_class StringLiteral (c ∷ cs) rest h m k = text_class goal c (cs ++ rest) (first_true (one_of "'\"" c) (closes_string c 0 cs) h)
  by_class Template [] rest h m k = absurd (true_false _ h refl)
  by_class Template (c ∷ cs) rest h m k = template_class goal c (cs ++ rest) cs (first_true (one_of "`}" c) (closes_template false cs) h) k
  by_class LexicalClass.RegularExpressionLiteral [] rest h m k = absurd (true_false _ h refl)
  by_class LexicalClass.RegularExpressionLiteral (c ∷ cs) rest h m k = regexp_class goal c (cs ++ rest) cs (first_true (one_of "/" c) (has_flags (expression_after opened cs)) h) k
  by_class PrivateName [] rest h m k = absurd (true_false _ h refl)
  by_class PrivateName (c ∷ cs) rest h m k = private_class goal c (cs ++ rest) (first_true (one_of "#" c) (is_name cs) h)
  by_class Keyword word rest h m k = absurd (true_false _ h refl)
  by_class End [] rest h m k = ended rest m
  by_class End (c ∷ cs) rest h m k = absurd (true_false _ h refl)
