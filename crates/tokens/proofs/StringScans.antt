-- Strings: an escape reads no further than one character behind it, so the quote that ends a string is found in one pass.
use Rattle.std.proofs.Common.{◌≡◌, ℕ, zero, suc, ◌+◌, ◌<◌, ◌≤◌, Bool, true, false, not, ◌&&◌, ◌||◌, ◌==◌, List, [], ◌∷◌, ◌++◌, length, take, drop, Option, Some, None, is_some, nat_le, if◌then◌else◌, IsTrue, IsFalse, refl, sym, ap, ◌∙◌, subst, arith, append_assoc, append-nil, length-append}
use Rattle.std.specs.List.{list_all, take_while}
use Rattle.std.specs.Char.Escape.{encode_utf16}
use Rattle.std.proofs.lemmas.Bool.{ne_eqb, eq-eqb}
use Rattle.std.proofs.lemmas.Bool.Decides.{nat_tests}
use Rattle.std.proofs.lemmas.List.{take-append-le}
use Rattle.std.proofs.lemmas.List.Sums.{take_while-cons}
use Rattle.source_text.specs.Source.{IsPlace}
use Rattle.source_text.specs.Lines.{is_line_terminator}
use Rattle.tokens.specs.Alphabet.{one_of, begins_with, is_empty, is_decimal_digit, is_hex_digit, line_feed, carriage_return}
use Rattle.tokens.specs.Escapes.{Piece, hex_value, fixed_escape, code_point_escape, unicode_escape, escaped_character, escape, piece, more_of}
use Rattle.tokens.specs.Strings.{closes_string}
use Rattle.tokens.specs.Lexical.{StringLiteral, none_longer, is_token}
use Rattle.tokens.specs.declared.escape.Escaped.{Escaped as Found}
use Rattle.tokens.specs.Escaped.{IsPieceAt, IsStringRest, NoStringRest}
use Rattle.tokens.specs.Reading.{behind}
use Rattle.tokens.specs.Scanned.{Passed, IsWordAt, NoWordAt}
use Rattle.tokens.proofs.Beginnings.{true_false}
use Rattle.tokens.proofs.Longest.{none_is_longer}
use Rattle.tokens.proofs.PassedCharacters.{passed_none, passed_on}

-- ---- what stands far behind an escape doesn't change it

fixed_more : (count : ℕ) (cs : List ℕ) (p : Piece) → fixed_escape count cs ≡ Some p → p.more ≡ count + 1
fixed_more count cs p e = of_test ((length (take count cs) == count) && list_all is_hex_digit (take count cs)) (hex_value 0 (take count cs) ∷ []) e where
  of_test : (a : Bool) (us : List ℕ) → (if a then Some (record { more = count + 1; units = us }) else None) ≡ Some p → p.more ≡ count + 1
  of_test true us e = sym (ap more_of e)
  of_test false us e = cc

fixed_local : (count : ℕ) (w a b : List ℕ) (p : Piece) → p.more < suc (length w) → fixed_escape count (w ++ a) ≡ Some p → fixed_escape count (w ++ b) ≡ Some p
fixed_local count w a b p n e =
    let m = fixed_more count (w ++ a) p e in
    let F : List ℕ → Option Piece = λ cs. if (length cs == count) && list_all is_hex_digit cs then Some (record { more = count + 1; units = hex_value 0 cs ∷ [] }) else None in
    ap F (take-append-le count w b (omega arith) ∙ sym (take-append-le count w a (omega arith))) ∙ e

while_local : (test : ℕ → Bool) (w a b : List ℕ) → length (take_while test (w ++ a)) < length w → take_while test (w ++ b) ≡ take_while test (w ++ a)
while_local test [] a b n = absurd (omega arith)
while_local test (c ∷ w) a b n =
    take_while-cons test c (w ++ b) ∙ more (test c) (subst (λ x. length x < suc (length w)) (take_while-cons test c (w ++ a)) n) (λ k. while_local test w a b k) ∙ sym (take_while-cons test c (w ++ a)) where
      more : (t : Bool) → length (if t then c ∷ take_while test (w ++ a) else []) < suc (length w) →
          (length (take_while test (w ++ a)) < length w → take_while test (w ++ b) ≡ take_while test (w ++ a)) →
          (if t then c ∷ take_while test (w ++ b) else []) ≡ (if t then c ∷ take_while test (w ++ a) else [])
      more true n f = ap (λ x. c ∷ x) (f (omega arith))
      more false n f = refl

begins_local : (test : ℕ → Bool) (n : ℕ) (w a b : List ℕ) → n < length w → begins_with test (drop n (w ++ a)) ≡ begins_with test (drop n (w ++ b))
begins_local test n [] a b h = absurd (omega arith)
begins_local test zero (c ∷ w) a b h = refl
begins_local test (suc n) (c ∷ w) a b h = begins_local test n w a b (omega arith)

code_point_more : (digits rest : List ℕ) (p : Piece) → code_point_escape digits rest ≡ Some p → p.more ≡ length digits + 3
code_point_more digits rest p e = of_test (not (is_empty digits) && nat_le (hex_value 0 digits) 0x10FFFF && begins_with (one_of "}") rest) (encode_utf16 (hex_value 0 digits)) e where
  of_test : (a : Bool) (us : List ℕ) → (if a then Some (record { more = length digits + 3; units = us }) else None) ≡ Some p → p.more ≡ length digits + 3
  of_test true us e = sym (ap more_of e)
  of_test false us e = cc

-- digits in braces
braced_local : (w a b : List ℕ) (p : Piece) → p.more < suc (suc (length w)) → unicode_escape (0x7B ∷ w ++ a) ≡ Some p → unicode_escape (0x7B ∷ w ++ b) ≡ Some p
braced_local w a b p n e =
    let D = take_while is_hex_digit (w ++ a) in
    let m = code_point_more D (drop (length D) (w ++ a)) p e in
    let d : take_while is_hex_digit (w ++ b) ≡ D = while_local is_hex_digit w a b (omega arith) in
    let G : Bool → Option Piece = λ t. if not (is_empty D) && nat_le (hex_value 0 D) 0x10FFFF && t then Some (record { more = length D + 3; units = encode_utf16 (hex_value 0 D) }) else None in
    ap (λ x. code_point_escape x (drop (length x) (w ++ b))) d ∙ ap G (begins_local (one_of "}") (length D) w b a (omega arith)) ∙ e

unicode_more : (cs : List ℕ) (p : Piece) → unicode_escape cs ≡ Some p → 3 ≤ p.more
unicode_more [] p e = cc
unicode_more (c ∷ cs) p e = by_brace (one_of "{" c) e where
  by_brace : (t : Bool) → (if t then code_point_escape (take_while is_hex_digit cs) (drop (length (take_while is_hex_digit cs)) cs) else fixed_escape 4 (c ∷ cs)) ≡ Some p → 3 ≤ p.more
  by_brace true e = let m = code_point_more (take_while is_hex_digit cs) (drop (length (take_while is_hex_digit cs)) cs) p e in omega arith
  by_brace false e = let m = fixed_more 4 (c ∷ cs) p e in omega arith

unicode_local : (w a b : List ℕ) (p : Piece) → p.more < suc (length w) → unicode_escape (w ++ a) ≡ Some p → unicode_escape (w ++ b) ≡ Some p
unicode_local [] a b p n e = let m = unicode_more a p e in absurd (omega arith)
unicode_local (c ∷ w) a b p n e =
    by_brace (one_of "{" c) e (braced_local w a b p n) (fixed_local 4 (c ∷ w) a b p n) where
      by_brace : (t : Bool) →
          (if t then code_point_escape (take_while is_hex_digit (w ++ a)) (drop (length (take_while is_hex_digit (w ++ a))) (w ++ a)) else fixed_escape 4 (c ∷ w ++ a)) ≡ Some p →
          (unicode_escape (0x7B ∷ w ++ a) ≡ Some p → unicode_escape (0x7B ∷ w ++ b) ≡ Some p) → (fixed_escape 4 (c ∷ w ++ a) ≡ Some p → fixed_escape 4 (c ∷ w ++ b) ≡ Some p) →
          (if t then code_point_escape (take_while is_hex_digit (w ++ b)) (drop (length (take_while is_hex_digit (w ++ b))) (w ++ b)) else fixed_escape 4 (c ∷ w ++ b)) ≡ Some p
      by_brace true e f g = f e
      by_brace false e f g = g e

-- the choice by the first character
abbrev choice : Bool → Bool → Bool → Bool → Bool → Bool → Bool → Bool → Option Piece → Option Piece → List ℕ → Option Piece
choice a b d e f g z n x u us =
    if a then x else if b then u else if d then (if z then None else Some (record { more = 1; units = 0 ∷ [] })) else if e then None
    else if f && n then Some (record { more = 2; units = [] }) else if g then Some (record { more = 1; units = [] }) else Some (record { more = 1; units = us })

choice_local : (a b d e f g z n z' n' : Bool) (x u x' u' : Option Piece) (us : List ℕ) (p : Piece) (k : ℕ) → p.more < suc k → (x ≡ Some p → x' ≡ Some p) → (u ≡ Some p → u' ≡ Some p) →
    (0 < k → z ≡ z') → (0 < k → n ≡ n') → choice a b d e f g z n x u us ≡ Some p → choice a b d e f g z' n' x' u' us ≡ Some p
choice_local true b d e f g z n z' n' x u x' u' us p k h fx fu fz fn q = fx q
choice_local false true d e f g z n z' n' x u x' u' us p k h fx fu fz fn q = fu q
choice_local false false true e f g true n z' n' x u x' u' us p k h fx fu fz fn q = cc
choice_local false false true e f g false n z' n' x u x' u' us p k h fx fu fz fn q =
    let m : 1 ≡ p.more = ap more_of q in
    let s : false ≡ z' = fz (omega arith) in
    ap (λ t. if t then None else Some (record { more = 1; units = 0 ∷ [] })) (sym s) ∙ q
choice_local false false false true f g z n z' n' x u x' u' us p k h fx fu fz fn q = cc
choice_local false false false false false g z n z' n' x u x' u' us p k h fx fu fz fn q = q
choice_local false false false false true g z true z' n' x u x' u' us p k h fx fu fz fn q =
    let m : 2 ≡ p.more = ap more_of q in
    let s : true ≡ n' = fn (omega arith) in
    ap (λ t. choice false false false false true g z' t x' u' us) (sym s) ∙ q
choice_local false false false false true true z false z' n' x u x' u' us p k h fx fu fz fn q =
    let m : 1 ≡ p.more = ap more_of q in
    let s : false ≡ n' = fn (omega arith) in
    ap (λ t. choice false false false false true true z' t x' u' us) (sym s) ∙ q
choice_local false false false false true false z false z' n' x u x' u' us p k h fx fu fz fn q =
    let m : 1 ≡ p.more = ap more_of q in
    let s : false ≡ n' = fn (omega arith) in
    ap (λ t. choice false false false false true false z' t x' u' us) (sym s) ∙ q

pub escape_local : (w a b : List ℕ) (p : Piece) → p.more < length w → escape (w ++ a) ≡ Some p → escape (w ++ b) ≡ Some p
escape_local [] a b p n e = absurd (omega arith)
escape_local (c ∷ w) a b p n e =
    choice_local (one_of "x" c) (one_of "u" c) (one_of "0" c) (is_decimal_digit c) (c == carriage_return) (is_line_terminator c) (begins_with is_decimal_digit (w ++ a)) (begins_with (λ d. d == line_feed) (w ++ a))
    (begins_with is_decimal_digit (w ++ b)) (begins_with (λ d. d == line_feed) (w ++ b)) (fixed_escape 2 (w ++ a)) (unicode_escape (w ++ a)) (fixed_escape 2 (w ++ b)) (unicode_escape (w ++ b))
    (encode_utf16 (escaped_character c)) p (length w) n (fixed_local 2 w a b p n) (unicode_local w a b p n) (λ h. begins_local is_decimal_digit 0 w a b h) (λ h. begins_local (λ d. d == line_feed) 0 w a b h) e

pub piece_local : (c : ℕ) (w a b : List ℕ) (p : Piece) → p.more < length w → piece c (w ++ a) ≡ Some p → piece c (w ++ b) ≡ Some p
piece_local c w a b p n e = by_backslash (one_of "\\" c) (escape (w ++ a)) (escape (w ++ b)) (escape_local w a b p n) e where
  by_backslash : (t : Bool) (x y : Option Piece) → (x ≡ Some p → y ≡ Some p) → (if t then x else Some (record { more = 0; units = encode_utf16 c })) ≡ Some p →
      (if t then y else Some (record { more = 0; units = encode_utf16 c })) ≡ Some p
  by_backslash true x y f e = f e
  by_backslash false x y f e = e

-- ---- the string that a text begins with, behind its first quote

abbrev pub before : ℕ → Option (List ℕ) → Option (List ℕ)
before c None = None
before c (Some w) = Some (c ∷ w)

abbrev pub only_if_some : Option Piece → Option (List ℕ) → Option (List ℕ)
only_if_some None o = None
only_if_some (Some p) o = o

abbrev pub closing : ℕ → ℕ → List ℕ → Option (List ℕ)
closing quote skipped [] = None
closing quote (suc skipped) (c ∷ cs) = before c (closing quote skipped cs)
closing quote zero (c ∷ cs) =
    if c == quote then Some (c ∷ []) else if (c == line_feed) || (c == carriage_return) then None
    else only_if_some (piece c cs) (before c (closing quote (more_of (piece c cs)) cs))

closes_long : (quote skipped : ℕ) (w : List ℕ) → IsTrue (closes_string quote skipped w) → skipped < length w
closes_long quote skipped [] h = absurd (true_false _ h refl)
closes_long quote zero (c ∷ w) h = omega arith
closes_long quote (suc skipped) (c ∷ w) h = let n = closes_long quote skipped w h in omega arith

nil_only : (cs : List ℕ) → IsTrue (is_empty cs) → cs ≡ []
nil_only [] h = refl
nil_only (c ∷ cs) h = absurd (true_false _ h refl)

-- the piece of a character whose string closes
closes_piece : (o : Option Piece) (a g : Bool) → IsTrue (not a && is_some o && g) → (p : Piece) × (o ≡ Some p) × IsFalse a × IsTrue g
closes_piece None a g h = absurd (no a g h) where
  no : (a g : Bool) → IsTrue (not a && false && g) → ⊥
  no a g h = grind (arith, nat_tests)
closes_piece (Some p) a g h = (p, refl, first a g h, second a g h) where
  first : (a g : Bool) → IsTrue (not a && true && g) → IsFalse a
  first a g h = grind (arith, nat_tests)

  second : (a g : Bool) → IsTrue (not a && true && g) → IsTrue g
  second a g h = grind (arith, nat_tests)

-- a front that closes is found
pub closing_found : (quote skipped : ℕ) (w rest : List ℕ) → IsTrue (closes_string quote skipped w) → closing quote skipped (w ++ rest) ≡ Some w
closing_found quote skipped [] rest h = absurd (true_false _ h refl)
closing_found quote (suc skipped) (c ∷ w) rest h = ap (before c) (closing_found quote skipped w rest h)
closing_found quote zero (c ∷ w) rest h =
    by_quote (c == quote) h (λ k. let f = closes_piece (piece c w) ((c == line_feed) || (c == carriage_return)) (closes_string quote (more_of (piece c w)) w) k in
    let g : IsTrue (closes_string quote f.0.more w) = subst (λ o. IsTrue (closes_string quote (more_of o) w)) f.1 f.3 in
    let e : piece c (w ++ rest) ≡ Some f.0 = piece_local c w [] rest f.0 (closes_long quote f.0.more w g) (ap (piece c) (append-nil w) ∙ f.1) in
    no_line_end ((c == line_feed) || (c == carriage_return)) f.2 (only_if_some (piece c (w ++ rest)) (before c (closing quote (more_of (piece c (w ++ rest))) (w ++ rest))))
    ∙ ap (λ o. only_if_some o (before c (closing quote (more_of o) (w ++ rest)))) e ∙ ap (before c) (closing_found quote f.0.more w rest g)) where
      no_line_end : (a : Bool) → IsFalse a → (o : Option (List ℕ)) → (if a then None else o) ≡ o
      no_line_end true h o = absurd (true_false _ refl h)
      no_line_end false h o = refl

      by_quote : (t : Bool) →
          IsTrue (if t then is_empty w else not ((c == line_feed) || (c == carriage_return)) && is_some (piece c w) && closes_string quote (more_of (piece c w)) w) →
          (IsTrue (not ((c == line_feed) || (c == carriage_return)) && is_some (piece c w) && closes_string quote (more_of (piece c w)) w) →
          (if (c == line_feed) || (c == carriage_return) then None else only_if_some (piece c (w ++ rest)) (before c (closing quote (more_of (piece c (w ++ rest))) (w ++ rest)))) ≡ Some (c ∷ w)) →
          (if t then Some (c ∷ []) else if (c == line_feed) || (c == carriage_return) then None
          else only_if_some (piece c (w ++ rest)) (before c (closing quote (more_of (piece c (w ++ rest))) (w ++ rest)))) ≡ Some (c ∷ w)
      by_quote true h f = ap (λ v. Some (c ∷ v)) (sym (nil_only w h))
      by_quote false h f = f h

before_some : (c : ℕ) (o : Option (List ℕ)) (w : List ℕ) → before c o ≡ Some w → (v : List ℕ) × (o ≡ Some v) × (w ≡ c ∷ v)
before_some c None w e = absurd cc
before_some c (Some v) w e = (v, refl, cc)

piece_some : (o : Option Piece) (x : Option (List ℕ)) (w : List ℕ) → only_if_some o x ≡ Some w → (p : Piece) × (o ≡ Some p) × (x ≡ Some w)
piece_some None x w e = absurd cc
piece_some (Some p) x w e = (p, refl, e)

-- what is found is a front that closes
pub closing_closes : (quote skipped : ℕ) (cs w : List ℕ) → closing quote skipped cs ≡ Some w → IsTrue (closes_string quote skipped w) × (rest : List ℕ) × (cs ≡ w ++ rest)
closing_closes quote skipped [] w e = absurd cc
closing_closes quote (suc skipped) (c ∷ cs) w e =
    let f = before_some c (closing quote skipped cs) w e in
    let k = closing_closes quote skipped cs f.0 f.1 in
    (subst (λ v. IsTrue (closes_string quote (suc skipped) v)) (sym f.2) k.0, k.1, ap (λ x. c ∷ x) k.2 ∙ ap (λ v. v ++ k.1) (sym f.2))
closing_closes quote zero (c ∷ cs) w e =
    by_quote (c == quote) refl e (λ t k. by_line_end ((c == line_feed) || (c == carriage_return)) refl k (λ l m.
    let q = piece_some (piece c cs) (before c (closing quote (more_of (piece c cs)) cs)) w m in
    let b : before c (closing quote q.0.more cs) ≡ Some w = ap (λ o. before c (closing quote (more_of o) cs)) (sym q.1) ∙ q.2 in
    let f = before_some c (closing quote q.0.more cs) w b in
    let r = closing_closes quote q.0.more cs f.0 f.1 in
    let far : piece c (f.0 ++ r.1) ≡ Some q.0 = ap (piece c) (sym r.2) ∙ q.1 in
    let near : piece c f.0 ≡ Some q.0 = ap (piece c) (sym (append-nil f.0)) ∙ piece_local c f.0 r.1 [] q.0 (closes_long quote q.0.more f.0 r.0) far in (
      subst (λ v. IsTrue (closes_string quote zero v)) (sym f.2)
          (all_true (c == quote) ((c == line_feed) || (c == carriage_return)) (is_some (piece c f.0)) (closes_string quote (more_of (piece c f.0)) f.0) (is_empty f.0) t l
          (subst (λ o. IsTrue (is_some o)) (sym near) refl) (subst (λ o. IsTrue (closes_string quote (more_of o) f.0)) (sym near) r.0)),
      r.1,
      ap (λ x. c ∷ x) r.2 ∙ ap (λ v. v ++ r.1) (sym f.2),
    ))) where
      Goal : Type 0
      Goal = IsTrue (closes_string quote zero w) × (rest : List ℕ) × (c ∷ cs ≡ w ++ rest)

      all_true : (a b d g n : Bool) → IsFalse a → IsFalse b → IsTrue d → IsTrue g → IsTrue (if a then n else not b && d && g)
      all_true true b d g n h k l m = absurd (true_false _ refl h)
      all_true false true d g n h k l m = absurd (true_false _ refl k)
      all_true false false false g n h k l m = absurd (true_false _ l refl)
      all_true false false true g n h k l m = m

      closed : (c == quote) ≡ true → w ≡ c ∷ [] → Goal
      closed t e = (subst (λ v. IsTrue (closes_string quote zero v)) (sym e) (ap (λ a. if a then true else not ((c == line_feed) || (c == carriage_return)) && is_some (piece c []) && closes_string quote (more_of (piece c [])) []) t), cs, ap (λ v. v ++ cs) (sym e))

      by_quote : (a : Bool) → (c == quote) ≡ a →
          (if a then Some (c ∷ []) else if (c == line_feed) || (c == carriage_return) then None
          else only_if_some (piece c cs) (before c (closing quote (more_of (piece c cs)) cs))) ≡ Some w →
          (IsFalse (c == quote) → (if (c == line_feed) || (c == carriage_return) then None else only_if_some (piece c cs) (before c (closing quote (more_of (piece c cs)) cs))) ≡ Some w → Goal) → Goal
      by_quote true t e f = closed t cc
      by_quote false t e f = f t e

      by_line_end : (a : Bool) → ((c == line_feed) || (c == carriage_return)) ≡ a →
          (if a then None else only_if_some (piece c cs) (before c (closing quote (more_of (piece c cs)) cs))) ≡ Some w →
          (IsFalse ((c == line_feed) || (c == carriage_return)) → only_if_some (piece c cs) (before c (closing quote (more_of (piece c cs)) cs)) ≡ Some w → Goal) → Goal
      by_line_end true t e f = absurd cc
      by_line_end false t e f = f t e

-- ---- the turns of the loop

abbrev pub all_before : List ℕ → Option (List ℕ) → Option (List ℕ)
all_before [] o = o
all_before (c ∷ w) o = before c (all_before w o)

pub all_before_append : (v w : List ℕ) (o : Option (List ℕ)) → all_before (v ++ w) o ≡ all_before v (all_before w o)
all_before_append [] w o = refl
all_before_append (c ∷ v) w o = ap (before c) (all_before_append v w o)

all_before_some : (v w : List ℕ) → all_before v (Some w) ≡ Some (v ++ w)
all_before_some [] w = refl
all_before_some (c ∷ v) w = ap (before c) (all_before_some v w)

all_before_none : (v : List ℕ) → all_before v None ≡ None
all_before_none [] = refl
all_before_none (c ∷ v) = ap (before c) (all_before_none v)

closing_skips : (quote : ℕ) (v cs : List ℕ) → closing quote (length v) (v ++ cs) ≡ all_before v (closing quote 0 cs)
closing_skips quote [] cs = refl
closing_skips quote (c ∷ v) cs = ap (before c) (closing_skips quote v cs)

-- a string's rest, as far as it has been read
pub record InString (quote : ℕ) (text : List ℕ) (at stop : ℕ) : Type 0 where
  pub word : List ℕ
  pub passed : Passed text at stop word
  pub same : closing quote 0 (behind text at) ≡ all_before word (closing quote 0 (behind text stop))

pub string_begins : (quote : ℕ) (text : List ℕ) (at : ℕ) → IsPlace text at → InString quote text at at
string_begins quote text at p = record { word = []; passed = passed_none text at p; same = refl }

-- over a character with its escape
pub string_goes_on : (quote : ℕ) (text : List ℕ) (at stop behind_one c : ℕ) (found : Found) → InString quote text at stop → Passed text stop behind_one (c ∷ []) → (c ≡ quote → ⊥) → (c ≡ 0xA → ⊥) → (c ≡ 0xD → ⊥) →
    IsPieceAt (piece c (behind text behind_one)) 0 text behind_one found → InString quote text at found.end
string_goes_on quote text at stop behind_one c found h p nq nl nr q =
    let v = q.word in
    let cs = behind text behind_one in
    let n : length v + 0 ≡ length v = omega arith in
    let one : closing quote 0 (behind text stop) ≡ before c (all_before v (closing quote 0 (behind text found.end))) =
    ap (closing quote 0) p.split
    ∙ passes (c == quote) (c == line_feed) (c == carriage_return) (Some (c ∷ [])) (only_if_some (piece c cs) (before c (closing quote (more_of (piece c cs)) cs))) (ne_eqb c quote nq) (ne_eqb c 0xA nl) (ne_eqb c 0xD nr)
    ∙ ap (λ o. only_if_some o (before c (closing quote (more_of o) cs))) q.is ∙ ap (λ m. before c (closing quote m cs)) n
    ∙ ap (λ x. before c (closing quote (length v) x)) q.passed.split ∙ ap (before c) (closing_skips quote v (behind text found.end)) in
    record {
      word = h.word ++ c ∷ v;
      passed = passed_on text at stop found.end h.word (c ∷ v) h.passed (passed_on text stop behind_one found.end (c ∷ []) v p q.passed);
      same = h.same ∙ ap (all_before h.word) one ∙ sym (all_before_append h.word (c ∷ v) (closing quote 0 (behind text found.end)));
    } where
      passes : (a b d : Bool) (x y : Option (List ℕ)) → a ≡ false → b ≡ false → d ≡ false → (if a then x else if b || d then None else y) ≡ y
      passes false false false x y h k l = refl
      passes true b d x y h k l = absurd (true_false _ refl h)
      passes false true d x y h k l = absurd (true_false _ refl k)
      passes false false true x y h k l = absurd (true_false _ refl l)

-- at the quote that ends it
pub string_closes : (quote : ℕ) (text : List ℕ) (at stop more c : ℕ) → InString quote text at stop → Passed text stop more (c ∷ []) → c ≡ quote → IsStringRest quote text at more
string_closes quote text at stop more c h p q =
    let word = h.word ++ c ∷ [] in
    let one : closing quote 0 (behind text stop) ≡ Some (c ∷ []) =
    ap (closing quote 0) p.split ∙ ends (c == quote) (if (c == line_feed) || (c == carriage_return) then None else only_if_some (piece c (behind text more)) (before c (closing quote (more_of (piece c (behind text more))) (behind text more)))) (eq-eqb c quote q) in
    let whole : closing quote 0 (behind text at) ≡ Some word = h.same ∙ ap (all_before h.word) one ∙ all_before_some h.word (c ∷ []) in
    record {
      word = word;
      passed = passed_on text at stop more h.word (c ∷ []) h.passed p;
      closes = (closing_closes quote 0 (behind text at) word whole).0;
    } where
      ends : (a : Bool) (y : Option (List ℕ)) → a ≡ true → (if a then Some (c ∷ []) else y) ≡ Some (c ∷ [])
      ends true y h = refl
      ends false y h = absurd (true_false false h refl)

-- where none closes from a place on, none does from the first quote on
none_closes : (quote : ℕ) (text : List ℕ) (at stop : ℕ) → InString quote text at stop → closing quote 0 (behind text stop) ≡ None → NoStringRest quote text at
none_closes quote text at stop h e = λ w rest q k.
    let none : closing quote 0 (behind text at) ≡ None = h.same ∙ ap (all_before h.word) e ∙ all_before_none h.word in
    let some : closing quote 0 (behind text at) ≡ Some w = ap (closing quote 0) q ∙ closing_found quote 0 w rest k in
    cc

pub string_open : (quote : ℕ) (text : List ℕ) (at stop : ℕ) → InString quote text at stop → behind text stop ≡ [] → NoStringRest quote text at
string_open quote text at stop h e = none_closes quote text at stop h (ap (closing quote 0) e)

pub string_broken : (quote : ℕ) (text : List ℕ) (at stop more c : ℕ) → InString quote text at stop → Passed text stop more (c ∷ []) → (c ≡ quote → ⊥) → IsTrue ((c == line_feed) || (c == carriage_return)) →
    NoStringRest quote text at
string_broken quote text at stop more c h p nq t =
    none_closes quote text at stop h
    (ap (closing quote 0) p.split ∙ breaks (c == quote) ((c == line_feed) || (c == carriage_return)) (Some (c ∷ [])) (only_if_some (piece c (behind text more)) (before c (closing quote (more_of (piece c (behind text more))) (behind text more)))) (ne_eqb c quote nq) t) where
      breaks : (a b : Bool) (x y : Option (List ℕ)) → a ≡ false → IsTrue b → (if a then x else if b then None else y) ≡ None
      breaks false true x y h k = refl
      breaks true b x y h k = absurd (true_false _ refl h)
      breaks false false x y h k = absurd (true_false _ k refl)

pub string_bad : (quote : ℕ) (text : List ℕ) (at stop more c : ℕ) → InString quote text at stop → Passed text stop more (c ∷ []) → (c ≡ quote → ⊥) → piece c (behind text more) ≡ None →
    NoStringRest quote text at
string_bad quote text at stop more c h p nq e =
    none_closes quote text at stop h
    (ap (closing quote 0) p.split
    ∙ ap (λ o. if c == quote then Some (c ∷ []) else if (c == line_feed) || (c == carriage_return) then None else only_if_some o (before c (closing quote (more_of o) (behind text more)))) e
    ∙ stuck (c == quote) ((c == line_feed) || (c == carriage_return)) (Some (c ∷ [])) (ne_eqb c quote nq)) where
      stuck : (a b : Bool) (x : Option (List ℕ)) → a ≡ false → (if a then x else if b then None else None) ≡ None
      stuck false true x h = refl
      stuck false false x h = refl
      stuck true b x h = absurd (true_false _ refl h)

-- ---- the token

same_length : (w : List ℕ) (c : ℕ) (more : List ℕ) → w ≡ w ++ c ∷ more → ⊥
same_length w c more e = let n = ap length e in let m = length-append w (c ∷ more) in omega arith

pub string_word : (text : List ℕ) (at start stop quote : ℕ) → Passed text at start (quote ∷ []) → IsTrue (one_of "'\"" quote) → IsStringRest quote text start stop → IsWordAt StringLiteral text at stop
string_word text at start stop quote p t r =
    record {
      word = quote ∷ r.word;
      passed = passed_on text at start stop (quote ∷ []) r.word p r.passed;
      longest = whole (one_of "'\"" quote) (closes_string quote 0 r.word) (none_longer StringLiteral (quote ∷ r.word) (behind text stop)) t r.closes
          (none_is_longer StringLiteral (quote ∷ r.word) (behind text stop) (λ c more rest e.
          none (one_of "'\"" quote) (closes_string quote 0 (r.word ++ c ∷ more)) (λ k. longer c more rest e k)));
    } where
      whole : (a b n : Bool) → IsTrue a → IsTrue b → IsTrue n → IsTrue ((((a && b) && true) && n) && true)
      whole a b n h k l = grind (arith, nat_tests)

      none : (a b : Bool) → (IsTrue b → ⊥) → IsFalse ((a && b) && true)
      none true true f = absurd (f refl)
      none true false f = refl
      none false b f = refl

      longer : (c : ℕ) (more rest : List ℕ) → behind text stop ≡ c ∷ more ++ rest → IsTrue (closes_string quote 0 (r.word ++ c ∷ more)) → ⊥
      longer c more rest e k =
          let here : closing quote 0 (r.word ++ (c ∷ more ++ rest)) ≡ Some r.word = closing_found quote 0 r.word (c ∷ more ++ rest) r.closes in
          let there : closing quote 0 ((r.word ++ c ∷ more) ++ rest) ≡ Some (r.word ++ c ∷ more) = closing_found quote 0 (r.word ++ c ∷ more) rest k in
          let q : Some r.word ≡ Some (r.word ++ c ∷ more) = sym here ∙ ap (closing quote 0) (sym (append_assoc r.word (c ∷ more) rest)) ∙ there in
          let s : r.word ≡ r.word ++ c ∷ more = cc in
          same_length r.word c more s

token_parts : (a b n : Bool) → IsTrue ((((a && b) && true) && n) && true) → IsTrue a × IsTrue b
token_parts a b n h = (grind (arith, nat_tests), grind (arith, nat_tests))

nothing : (n : Bool) → IsTrue ((false && n) && true) → ⊥
nothing n h = grind (arith, nat_tests)

pub no_string_end : (text : List ℕ) (at : ℕ) → behind text at ≡ [] → NoWordAt StringLiteral text at
no_string_end text at q = λ w rest e h. none w rest (sym q ∙ e) h where
  none : (w rest : List ℕ) → [] ≡ w ++ rest → IsTrue (is_token StringLiteral w rest) → ⊥
  none [] rest e h = nothing (none_longer StringLiteral [] rest) h
  none (d ∷ w) rest e h = cc

pub no_quote : (text : List ℕ) (at stop c : ℕ) → Passed text at stop (c ∷ []) → IsFalse (one_of "'\"" c) → NoWordAt StringLiteral text at
no_quote text at stop c p t = λ w rest e h. none w rest (sym p.split ∙ e) h where
  none : (w rest : List ℕ) → c ∷ behind text stop ≡ w ++ rest → IsTrue (is_token StringLiteral w rest) → ⊥
  none [] rest e h = nothing (none_longer StringLiteral [] rest) h
  none (d ∷ w) rest e h =
      let q : d ≡ c = cc in
      true_false (one_of "'\"" c) (subst (λ x. IsTrue (one_of "'\"" x)) q (token_parts (one_of "'\"" d) (closes_string d 0 w) (none_longer StringLiteral (d ∷ w) rest) h).0) t

pub no_string : (text : List ℕ) (at stop quote : ℕ) → Passed text at stop (quote ∷ []) → NoStringRest quote text stop → NoWordAt StringLiteral text at
no_string text at stop quote p n = λ w rest e h. none w rest (sym p.split ∙ e) h where
  none : (w rest : List ℕ) → quote ∷ behind text stop ≡ w ++ rest → IsTrue (is_token StringLiteral w rest) → ⊥
  none [] rest e h = nothing (none_longer StringLiteral [] rest) h
  none (d ∷ w) rest e h =
      let q : d ≡ quote = cc in
      let k : behind text stop ≡ w ++ rest = cc in
      n w rest k (subst (λ x. IsTrue (closes_string x 0 w)) q (token_parts (one_of "'\"" d) (closes_string d 0 w) (none_longer StringLiteral (d ∷ w) rest) h).1)
