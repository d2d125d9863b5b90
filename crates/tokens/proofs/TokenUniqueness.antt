-- By a goal at most one token is read at a place.
use Rattle.std.proofs.Common.{◌≡◌, ℕ, ◌+◌, ◌<◌, ◌≤◌, Bool, true, false, not, ◌&&◌, ◌||◌, ◌==◌, List, [], ◌∷◌, ◌++◌, IsTrue, IsFalse, refl, sym, ap, ◌∙◌, subst, arith, inl, inr, ◌⊎◌, zero, suc, append-nil}
use Rattle.std.specs.Prelude.{encode_utf8_all, nat_le}
use Rattle.std.specs.List.{list_all, list_any}
use Rattle.std.specs.Char.{is_ascii_alphabetic}
use Rattle.std.proofs.lemmas.List.{append_cancel_left, append_assoc}
use Rattle.std.proofs.lemmas.Bool.{cases_lt, eqb-true}
use Rattle.std.proofs.lemmas.Bool.Decides.{nat_tests}
use Rattle.unicode_ident.specs.Ident.{is_xid_start}
use Rattle.unicode_ident.proofs.Computing.{unicode_ident}
use Rattle.unicode_ident.proofs.IdentLemmas.{is_xid_start-ascii}
use Rattle.source_text.specs.Lines.{is_line_terminator}
use Rattle.tokens.specs.Alphabet.{one_of, is_among, is_empty, begins_with, is_identifier_start, is_identifier_part, is_decimal_digit}
use Rattle.tokens.specs.Comments.{begins_comment, closes_comment, is_comment, Separators, nothing, blank, comment}
use Rattle.tokens.specs.Lexical.{LexicalClass, IdentifierName, Punctuator, NumericLiteral, StringLiteral, Template, PrivateName, Keyword, End, is_name, punctuators, is_of, may_stand, is_at, none_longer, ends_well, is_token}
use Rattle.tokens.specs.Strings.{closes_string}
use Rattle.tokens.specs.Templates.{closes_template}
use Rattle.tokens.specs.RegularExpressions.{opened, expression_after, has_flags}
use Rattle.tokens.specs.Goals.{Goal}
use Rattle.tokens.specs.TokenStarts.{class_of}
use Rattle.tokens.specs.Tokens.{LexicalToken, IsTokenAt, size}
use Rattle.tokens.specs.Reading.{behind}
use Rattle.tokens.specs.Scanned.{IsSolid}
use Rattle.tokens.proofs.Beginnings.{true_false}
use Rattle.tokens.proofs.Longest.{longer_is_none}
use Rattle.tokens.proofs.TriviaSteps.{is_blank, fronts, closed_once, closes_same, any_append, begins_slash}
use Rattle.tokens.proofs.Classes.{is_special, words_all, token_is, number_begins, class_fits}

-- ---- no token begins with a blank

-- a test that all characters of a range pass
abbrev pub all_from : (ℕ → Bool) → ℕ → ℕ → Bool
all_from test low zero = true
all_from test low (suc n) = test (low + n) && all_from test low n

pub from_range : (test : ℕ → Bool) (low n c : ℕ) → IsTrue (all_from test low n) → low ≤ c → c < low + n → IsTrue (test c)
from_range test low zero c h k l = absurd (omega arith)
from_range test low (suc n) c h k l = here (cases_lt c (low + n)) where
  first : (a b : Bool) → IsTrue (a && b) → IsTrue a
  first a b h = grind (arith, nat_tests)

  second : (a b : Bool) → IsTrue (a && b) → IsTrue b
  second a b h = grind (arith, nat_tests)

  deeper : (d : ℕ) (e : ℕ) → IsTrue (all_from test low e) → low ≤ d → d < low + e → IsTrue (test d)
  deeper d zero h k l = absurd (omega arith)
  deeper d (suc e) h k l =
      elim (cases_lt d (low + e)) [
        | inl lt ↦ deeper d e (second (test (low + e)) (all_from test low e) h) k lt
        | inr ge ↦ let q : low + e ≡ d = omega arith in subst (λ x. IsTrue (test x)) q (first (test (low + e)) (all_from test low e) h)
      ]

  here : (c < low + n) ⊎ (low + n ≤ c) → IsTrue (test c)
  here (inl lt) = deeper c n (second (test (low + n)) (all_from test low n) h) k lt
  here (inr ge) = let q : low + n ≡ c = omega arith in subst (λ x. IsTrue (test x)) q (first (test (low + n)) (all_from test low n) h)

-- a test that all characters of a list pass
pub from_list : (test : ℕ → Bool) (cs : List ℕ) (c : ℕ) → IsTrue (list_all test cs) → IsTrue (is_among c cs) → IsTrue (test c)
from_list test [] c h k = absurd (true_false _ k refl)
from_list test (x ∷ []) c h k = subst (λ y. IsTrue (test y)) (sym (eqb-true c x k)) (first (test x) h) where
  first : (a : Bool) → IsTrue (a && true) → IsTrue a
  first a h = grind (arith, nat_tests)
from_list test (x ∷ y ∷ ys) c h k = here (c == x) refl h k (λ a b. from_list test (y ∷ ys) c a b) where
  first : (a b : Bool) → IsTrue (a && b) → IsTrue a
  first a b h = grind (arith, nat_tests)

  second : (a b : Bool) → IsTrue (a && b) → IsTrue b
  second a b h = grind (arith, nat_tests)

  here : (a : Bool) → (c == x) ≡ a → IsTrue (test x && list_all test (y ∷ ys)) → IsTrue (a || is_among c (y ∷ ys)) →
      (IsTrue (list_all test (y ∷ ys)) → IsTrue (is_among c (y ∷ ys)) → IsTrue (test c)) → IsTrue (test c)
  here true e h k f = subst (λ z. IsTrue (test z)) (sym (eqb-true c x e)) (first (test x) (list_all test (y ∷ ys)) h)
  here false e h k f = f (second (test x) (list_all test (y ∷ ys)) h) k

abbrev no_start : ℕ → Bool
no_start c = not (is_xid_start c)

abbrev far_blanks : List ℕ
far_blanks = 0xA0 ∷ 0xFEFF ∷ 0x1680 ∷ 0x202F ∷ 0x205F ∷ 0x3000 ∷ 0x2028 ∷ 0x2029 ∷ []

listed : IsTrue (list_all no_start far_blanks)
unfolding unicode_ident
listed = refl

ranged : IsTrue (all_from no_start 0x2000 11)
unfolding unicode_ident
ranged = refl

-- no white space and no line terminator begins an identifier
pub blank_no_start : (c : ℕ) → IsTrue (is_blank c) → IsFalse (is_identifier_start c)
blank_no_start c h =
    elim (cases_lt c 128) [
      | inl lt ↦ ascii c (is_xid_start c) lt (is_xid_start-ascii c lt) h
      | inr ge ↦ far (is_among c far_blanks) (nat_le 0x2000 c && nat_le c 0x200A) refl refl ge
    ] where
      ascii : (c : ℕ) (x : Bool) → c < 128 → x ≡ is_ascii_alphabetic c → IsTrue (is_blank c) → IsFalse (one_of "$_" c || x)
      ascii c x lt e h = grind (arith, nat_tests)

      plain : (c : ℕ) (x : Bool) → 128 ≤ c → IsTrue (not x) → IsFalse (one_of "$_" c || x)
      plain c x ge h = grind (arith, nat_tests)

      within : (c : ℕ) → (nat_le 0x2000 c && nat_le c 0x200A) ≡ true → (0x2000 ≤ c) × (c < 0x2000 + 11)
      within c e = (grind (arith, nat_tests), grind (arith, nat_tests))

      neither : (c : ℕ) → 128 ≤ c → is_among c far_blanks ≡ false → (nat_le 0x2000 c && nat_le c 0x200A) ≡ false → IsTrue (is_blank c) → ⊥
      neither c ge e f h = grind (arith, nat_tests)

      far : (a b : Bool) → is_among c far_blanks ≡ a → (nat_le 0x2000 c && nat_le c 0x200A) ≡ b → 128 ≤ c → IsFalse (is_identifier_start c)
      far true b e f ge = plain c (is_xid_start c) ge (from_list no_start far_blanks c listed e)
      far false true e f ge = plain c (is_xid_start c) ge (from_range no_start 0x2000 11 c ranged (within c f).0 (within c f).1)
      far false false e f ge = absurd (neither c ge e f h)

pub special_no_blank : (c : ℕ) → IsTrue (is_special c) → IsFalse (is_blank c)
special_no_blank c h = grind (arith, nat_tests)

-- a token's first character
pub token_begins : (class : LexicalClass) (c : ℕ) (cs : List ℕ) → IsTrue (is_of class (c ∷ cs)) → IsFalse (is_blank c)
token_begins class c cs h = by_class class h where
  start : (x : Bool) → is_identifier_start c ≡ true → is_blank c ≡ x → IsFalse x
  start true e f = absurd (true_false _ e (blank_no_start c f))
  start false e f = refl

  first_true : (a b : Bool) → IsTrue (a && b) → IsTrue a
  first_true a b h = grind (arith, nat_tests)

  digit : (c : ℕ) (x : Bool) → IsTrue (is_decimal_digit c || (one_of "." c && x)) → IsTrue (is_special c)
  digit c x h = grind (arith, nat_tests)

  quote : (c : ℕ) → IsTrue (one_of "'\"" c) → IsTrue (is_special c)
  quote c h = grind (arith, nat_tests)

  accent : (c : ℕ) → IsTrue (one_of "`}" c) → IsTrue (is_special c)
  accent c h = grind (arith, nat_tests)

  slash : (c : ℕ) → IsTrue (one_of "/" c) → IsTrue (is_special c)
  slash c h = grind (arith, nat_tests)

  hash : (c : ℕ) → IsTrue (one_of "#" c) → IsTrue (is_special c)
  hash c h = grind (arith, nat_tests)

  by_class : (class : LexicalClass) → IsTrue (is_of class (c ∷ cs)) → IsFalse (is_blank c)
  by_class IdentifierName h = start (is_blank c) (first_true (is_identifier_start c) (list_all is_identifier_part cs) h) refl
  by_class Punctuator h = special_no_blank c (words_all punctuators (begins_with is_special) (c ∷ cs) refl h)
  by_class NumericLiteral h = special_no_blank c (digit c (begins_with is_decimal_digit cs) (number_begins c cs h))
  by_class StringLiteral h = special_no_blank c (quote c (first_true (one_of "'\"" c) (closes_string c 0 cs) h))
  by_class Template h = special_no_blank c (accent c (first_true (one_of "`}" c) (closes_template false cs) h))
  by_class LexicalClass.RegularExpressionLiteral h = special_no_blank c (slash c (first_true (one_of "/" c) (has_flags (expression_after opened cs)) h))
  by_class PrivateName h = special_no_blank c (hash c (first_true (one_of "#" c) (is_name cs) h))
  by_class Keyword h = absurd (true_false _ h refl)
  by_class End h = absurd (true_false _ h refl)

-- ---- comments

pub comment_begins : (word rest : List ℕ) → IsTrue (is_comment word rest) → IsTrue (begins_comment (word ++ rest))
comment_begins [] rest h = absurd (true_false _ h refl)
comment_begins (c ∷ []) rest h = absurd (short (one_of "/" c) (is_empty rest || begins_with is_line_terminator rest) h) where
  short : (a b : Bool) → IsTrue ((((a && false) && true) && b) || false) → ⊥
  short a b h = grind (arith, nat_tests)
comment_begins (c ∷ d ∷ w) rest h =
    tests c d (not (list_any is_line_terminator (d ∷ w))) (is_empty rest || begins_with is_line_terminator rest) (closes_comment w) h where
      tests : (c d : ℕ) (b e g : Bool) → IsTrue ((((one_of "/" c && one_of "/" d) && b) && e) || ((one_of "/" c && one_of "*" d) && g)) → IsTrue (one_of "/" c && one_of "/*" d)
      tests c d b e g h = grind (arith, nat_tests)

-- the front of a comment that is a comment is the whole
pub comment_longer : (v m b : List ℕ) → IsTrue (is_comment v (m ++ b)) → IsTrue (is_comment (v ++ m) b) → m ≡ []
comment_longer [] m b h k = absurd (true_false _ h refl)
comment_longer (c ∷ []) m b h k = absurd (short (one_of "/" c) (is_empty (m ++ b) || begins_with is_line_terminator (m ++ b)) h) where
  short : (a b : Bool) → IsTrue ((((a && false) && true) && b) || false) → ⊥
  short a b h = grind (arith, nat_tests)
comment_longer (c ∷ d ∷ vs) m b h k = by_kind (one_of "/" d) refl where
  line_any : (c d : ℕ) (x y g : Bool) → one_of "/" d ≡ true → IsTrue ((((one_of "/" c && one_of "/" d) && not x) && y) || ((one_of "/" c && one_of "*" d) && g)) → x ≡ false
  line_any c d x y g e h = grind (arith, nat_tests)

  line_end : (c d : ℕ) (x y g : Bool) → one_of "/" d ≡ true → IsTrue ((((one_of "/" c && one_of "/" d) && not x) && y) || ((one_of "/" c && one_of "*" d) && g)) → y ≡ true
  line_end c d x y g e h = grind (arith, nat_tests)

  block_end : (c d : ℕ) (x y g : Bool) → one_of "/" d ≡ false → IsTrue ((((one_of "/" c && one_of "/" d) && not x) && y) || ((one_of "/" c && one_of "*" d) && g)) → IsTrue g
  block_end c d x y g e h = grind (arith, nat_tests)

  at_end : (m : List ℕ) → (is_empty (m ++ b) || begins_with is_line_terminator (m ++ b)) ≡ true → list_any is_line_terminator ((d ∷ vs) ++ m) ≡ false → m ≡ []
  at_end [] e f = refl
  at_end (x ∷ xs) e f = absurd (last (list_any is_line_terminator (d ∷ vs)) (is_line_terminator x) (list_any is_line_terminator xs) e (sym (any_append is_line_terminator (d ∷ vs) (x ∷ xs)) ∙ f)) where
    last : (a b g : Bool) → b ≡ true → (a || (b || g)) ≡ false → ⊥
    last a b g e f = grind (arith, nat_tests)

  closed : (vs : List ℕ) → IsTrue (closes_comment vs) → IsTrue (closes_comment (vs ++ m)) → m ≡ []
  closed [] h k = absurd (true_false _ h refl)
  closed (y ∷ ys) h k = closed_once (one_of "*" y) ys m (subst IsTrue (closes_same y ys) h) (subst IsTrue (closes_same y (ys ++ m)) k)

  by_kind : (a : Bool) → one_of "/" d ≡ a → m ≡ []
  by_kind true e =
      at_end m (line_end c d (list_any is_line_terminator (d ∷ vs)) (is_empty (m ++ b) || begins_with is_line_terminator (m ++ b)) (closes_comment vs) e h)
      (line_any c d (list_any is_line_terminator ((d ∷ vs) ++ m)) (is_empty b || begins_with is_line_terminator b) (closes_comment (vs ++ m)) e k)
  by_kind false e =
      closed vs (block_end c d (list_any is_line_terminator (d ∷ vs)) (is_empty (m ++ b) || begins_with is_line_terminator (m ++ b)) (closes_comment vs) e h)
      (block_end c d (list_any is_line_terminator ((d ∷ vs) ++ m)) (is_empty b || begins_with is_line_terminator b) (closes_comment (vs ++ m)) e k)

-- two fronts of one list, of which none goes on to the other, are one
pub same_fronts : (P : List ℕ → List ℕ → Type 0) → ((v m b : List ℕ) → P v (m ++ b) → P (v ++ m) b → m ≡ []) → (v w a b : List ℕ) → P v a → P w b → v ++ a ≡ w ++ b → v ≡ w
same_fronts P longer v w a b h k e =
    elim (fronts v w a b e) [
      | inl p ↦ let n = longer v p.0 b (subst (λ x. P v x) p.2 h) (subst (λ x. P x b) p.1 k) in sym (p.1 ∙ ap (λ x. v ++ x) n ∙ append-nil v)
      | inr p ↦ let n = longer w p.0 a (subst (λ x. P w x) p.2 k) (subst (λ x. P x a) p.1 h) in p.1 ∙ ap (λ x. w ++ x) n ∙ append-nil w
    ]

pub comment_same : (v w a b : List ℕ) → IsTrue (is_comment v a) → IsTrue (is_comment w b) → v ++ a ≡ w ++ b → v ≡ w
comment_same v w a b h k e = same_fronts (λ x y. IsTrue (is_comment x y)) comment_longer v w a b h k e

-- ---- what stands between tokens

pub token_solid : (class : LexicalClass) (word rest : List ℕ) → IsTrue (is_token class word rest) → IsTrue (not (begins_comment (word ++ rest))) → IsSolid (word ++ rest)
token_solid class word rest h k =
    record {
      no_blank = no_blank class word rest (token_is class word rest h) (ends class word rest h);
      no_comment = λ w r e c. true_false _ (subst (λ x. IsTrue (begins_comment x)) (sym e) (comment_begins w r c)) (no (begins_comment (word ++ rest)) k);
    } where
      no : (a : Bool) → IsTrue (not a) → a ≡ false
      no true h = absurd (true_false _ h refl)
      no false h = refl

      second : (a b d e : Bool) → IsTrue (((a && b) && d) && e) → IsTrue b
      second a b d e h = grind (arith, nat_tests)

      ends : (class : LexicalClass) (word rest : List ℕ) → IsTrue (is_token class word rest) → IsTrue (may_stand class word rest)
      ends class word rest h = second (is_of class word) (may_stand class word rest) (none_longer class word rest) (ends_well class rest) h

      empty_rest : (rest : List ℕ) → IsTrue (is_empty rest) → IsFalse (begins_with is_blank rest)
      empty_rest [] h = refl
      empty_rest (c ∷ cs) h = absurd (true_false _ h refl)

      no_blank : (class : LexicalClass) (word rest : List ℕ) → IsTrue (is_of class word) → IsTrue (may_stand class word rest) → IsFalse (begins_with is_blank (word ++ rest))
      no_blank class (c ∷ cs) rest h m = token_begins class c cs h
      no_blank End [] rest h m = empty_rest rest m
      no_blank IdentifierName [] rest h m = absurd (true_false _ h refl)
      no_blank Punctuator [] rest h m = absurd (true_false _ h refl)
      no_blank NumericLiteral [] rest h m = absurd (true_false _ h refl)
      no_blank StringLiteral [] rest h m = absurd (true_false _ h refl)
      no_blank Template [] rest h m = absurd (true_false _ h refl)
      no_blank LexicalClass.RegularExpressionLiteral [] rest h m = absurd (true_false _ h refl)
      no_blank PrivateName [] rest h m = absurd (true_false _ h refl)
      no_blank Keyword [] rest h m = absurd (true_false _ h refl)

slash_no_blank : (c : ℕ) → c ≡ 0x2F → IsTrue (is_blank c) → ⊥
slash_no_blank c e h = true_false _ (subst (λ x. IsTrue (is_blank x)) e h) refl

-- separators that nothing separates further are those that stand there
pub gap_same : (g h r s : List ℕ) → Separators g r → Separators h s → g ++ r ≡ h ++ s → IsSolid r → IsSolid s → g ≡ h
gap_same g h r s nothing nothing e a b = refl
gap_same g h r s nothing (blank {c = c} {gap = gap} x t) e a b = absurd (true_false _ (subst (λ y. IsTrue (begins_with is_blank y)) (sym e) x) a.no_blank)
gap_same g h r s nothing (comment {gap = gap} body behind q x t) e a b = absurd (a.no_comment body (behind ++ s) (e ∙ ap (λ y. y ++ s) q ∙ append_assoc body behind s) x)
gap_same g h r s (blank {c = c} {gap = gap} x t) nothing e a b = absurd (true_false _ (subst (λ y. IsTrue (begins_with is_blank y)) e x) b.no_blank)
gap_same g h r s (comment {gap = gap} body behind q x t) nothing e a b = absurd (b.no_comment body (behind ++ r) (sym e ∙ ap (λ y. y ++ r) q ∙ append_assoc body behind r) x)
gap_same g h r s (blank {c = c} {gap = gap} x t) (blank {c = d} {gap = other} y u) e a b =
    let p : c ≡ d = cc in
    let q : gap ++ r ≡ other ++ s = cc in
    let n : gap ≡ other = gap_same gap other r s t u q a b in
    cc
gap_same g h r s (blank {c = c} {gap = gap} x t) (comment {gap = other} body behind q y u) e a b =
    let k = begins_slash body (behind ++ s) y in
    let z : c ∷ (gap ++ r) ≡ 0x2F ∷ (k.0 ++ (behind ++ s)) = e ∙ ap (λ w. w ++ s) q ∙ append_assoc body behind s ∙ ap (λ w. w ++ (behind ++ s)) k.1 in
    let p : c ≡ 0x2F = cc in
    absurd (slash_no_blank c p x)
gap_same g h r s (comment {gap = gap} body behind q x t) (blank {c = d} {gap = other} y u) e a b =
    let k = begins_slash body (behind ++ r) x in
    let z : d ∷ (other ++ s) ≡ 0x2F ∷ (k.0 ++ (behind ++ r)) = sym e ∙ ap (λ w. w ++ r) q ∙ append_assoc body behind r ∙ ap (λ w. w ++ (behind ++ r)) k.1 in
    let p : d ≡ 0x2F = cc in
    absurd (slash_no_blank d p y)
gap_same g h r s (comment {gap = gap} body behind q x t) (comment {gap = other} body2 behind2 q2 y u) e a b =
    let z : body ++ (behind ++ r) ≡ body2 ++ (behind2 ++ s) = sym (ap (λ w. w ++ r) q ∙ append_assoc body behind r) ∙ e ∙ ap (λ w. w ++ s) q2 ∙ append_assoc body2 behind2 s in
    let n = comment_same body body2 (behind ++ r) (behind2 ++ s) x y z in
    let m = append_cancel_left body (behind ++ r) (behind2 ++ s) (z ∙ ap (λ w. w ++ (behind2 ++ s)) (sym n)) in
    let o = gap_same behind behind2 r s t u m a b in
    q ∙ ap (λ w. w ++ behind) n ∙ ap (λ w. body2 ++ w) o ∙ sym q2

-- ---- tokens

token_longer : (class : LexicalClass) (v m b : List ℕ) → IsTrue (is_token class v (m ++ b)) → IsTrue (is_token class (v ++ m) b) → m ≡ []
token_longer class v [] b h k = refl
token_longer class v (x ∷ xs) b h k =
    absurd (true_false _ (at (is_at class (v ++ x ∷ xs) b) (none_longer class (v ++ x ∷ xs) b) (ends_well class b) k)
    (longer_is_none class v x xs b (longest (is_at class v (x ∷ xs ++ b)) (none_longer class v (x ∷ xs ++ b)) (ends_well class (x ∷ xs ++ b)) h))) where
      at : (a b d : Bool) → IsTrue ((a && b) && d) → IsTrue a
      at a b d h = grind (arith, nat_tests)

      longest : (a b d : Bool) → IsTrue ((a && b) && d) → IsTrue b
      longest a b d h = grind (arith, nat_tests)

-- of a class one token stands at a place at most
pub longest_same : (class : LexicalClass) (v w a b : List ℕ) → IsTrue (is_token class v a) → IsTrue (is_token class w b) → v ++ a ≡ w ++ b → v ≡ w
longest_same class v w a b h k e = same_fronts (λ x y. IsTrue (is_token class x y)) (token_longer class) v w a b h k e

token_same : (a b : LexicalToken) → a.class ≡ b.class → a.text ≡ b.text → a.start ≡ b.start → a.stop ≡ b.stop → a.after_break ≡ b.after_break → a ≡ b
token_same a b p q r s t =
    let make : LexicalClass → List ℕ → ℕ → ℕ → Bool → LexicalToken = λ c x m n k. record { class = c; text = x; start = m; stop = n; after_break = k } in
    ap (λ c. make c a.text a.start a.stop a.after_break) p ∙ ap (λ x. make b.class x a.start a.stop a.after_break) q ∙ ap (λ m. make b.class b.text m a.stop a.after_break) r
    ∙ ap (λ n. make b.class b.text b.start n a.after_break) s ∙ ap (λ k. make b.class b.text b.start b.stop k) t

-- by a goal one token is read at a place at most
pub determined : (goal : Goal) (at : ℕ) (cs : List ℕ) (a b : LexicalToken) (ra rb : List ℕ) → IsTokenAt goal at cs a ra → IsTokenAt goal at cs b rb → (a ≡ b) × (ra ≡ rb)
determined goal at cs a b ra rb x y =
    let e : x.gap ++ (x.word ++ ra) ≡ y.gap ++ (y.word ++ rb) = sym (append_assoc x.gap x.word ra) ∙ sym x.split ∙ y.split ∙ append_assoc y.gap y.word rb in
    let gaps = gap_same x.gap y.gap (x.word ++ ra) (y.word ++ rb) x.separated y.separated e (token_solid a.class x.word ra x.longest x.no_comment) (token_solid b.class y.word rb y.longest y.no_comment) in
    let words : x.word ++ ra ≡ y.word ++ rb = append_cancel_left x.gap (x.word ++ ra) (y.word ++ rb) (e ∙ ap (λ w. w ++ (y.word ++ rb)) (sym gaps)) in
    let class : a.class ≡ b.class = class_fits goal a.class x.word ra x.longest x.allowed ∙ ap (class_of goal) words ∙ sym (class_fits goal b.class y.word rb y.longest y.allowed) in
    let word : x.word ≡ y.word = longest_same b.class x.word y.word ra rb (subst (λ c. IsTrue (is_token c x.word ra)) class x.longest) y.longest words in
    let rest : ra ≡ rb = append_cancel_left x.word ra rb (words ∙ ap (λ w. w ++ rb) (sym word)) in
    let start : a.start ≡ b.start = x.start ∙ ap (λ g. at + size g) gaps ∙ sym y.start in (
      token_same a b class (x.text ∙ ap encode_utf8_all word ∙ sym y.text) start (x.stop ∙ ap (λ n. n + size x.word) start ∙ ap (λ w. b.start + size w) word ∙ sym y.stop)
          (x.after_break ∙ ap (list_any is_line_terminator) gaps ∙ sym y.after_break),
      rest,
    )
