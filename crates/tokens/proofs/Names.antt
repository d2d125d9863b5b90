-- Names: the longest.
use Rattle.std.proofs.Common.{◌≡◌, ℕ, ◌+◌, ◌<◌, ◌≤◌, Bool, true, false, not, ◌&&◌, ◌||◌, ◌==◌, nat_eq, get_or, length, List, [], ◌∷◌, ◌++◌, IsTrue, IsFalse, refl, sym, ap, ◌∙◌, subst, arith, inl, inr}
use Rattle.std.specs.Char.{is_ascii, is_ascii_alphabetic, is_ascii_alphanumeric}
use Rattle.std.specs.List.{list_all}
use Rattle.std.specs.Str.{IsUtf8}
use Rattle.std.proofs.lemmas.Bool.{cases_lt}
use Rattle.std.proofs.lemmas.Bool.Decides.{nat_tests}
use Rattle.source_text.specs.Source.{IsPlace}
use Rattle.unicode_ident.specs.Ident.{is_xid_continue}
use Rattle.unicode_ident.proofs.IdentLemmas.{is_xid_start-ascii, is_xid_continue-ascii}
use Rattle.tokens.specs.Alphabet.{one_of, is_among, begins_with, is_identifier_start, is_identifier_part}
use Rattle.tokens.specs.declared.name.TheConstants.{PARTS}
use Rattle.tokens.specs.Lexical.{IdentifierName, none_longer, is_token}
use Rattle.tokens.specs.Reading.{behind}
use Rattle.tokens.specs.Scanned.{Passed, AllPass, IsRun, IsWordAt, NoWordAt}
use Rattle.tokens.proofs.PassedCharacters.{behind_end, no_ascii_far, pass_byte, passed_on}
use Rattle.tokens.proofs.Beginnings.{true_false}
use Rattle.tokens.proofs.Sets.{agree}
use Rattle.tokens.proofs.TriviaSteps.{all_append, over_byte}
use Rattle.tokens.proofs.Longest.{none_is_longer}

-- the identifier characters of ASCII
small : (c : ℕ) → is_ascii c ≡ true → c < 128
small c e = grind (arith, nat_tests)

pub part_rows : (c : ℕ) → c < 256 → not (nat_eq (get_or PARTS c 0) 44) ≡ (one_of "$_" c || is_ascii_alphanumeric c)
part_rows c lt = agree (λ x. not (nat_eq (get_or PARTS x 0) 44)) (λ x. one_of "$_" x || is_ascii_alphanumeric x) 256 refl c lt

pub ascii_start : (c : ℕ) → is_ascii c ≡ true → (one_of "$_" c || is_ascii_alphabetic c) ≡ is_identifier_start c
ascii_start c e = ap (λ x. one_of "$_" c || x) (sym (is_xid_start-ascii c (small c e)))

pub ascii_part : (c : ℕ) → is_ascii c ≡ true → (one_of "$_" c || is_ascii_alphanumeric c) ≡ is_identifier_part c
ascii_part c e = same c (is_xid_continue c) (small c e) (is_xid_continue-ascii c (small c e)) where
  same : (c : ℕ) (x : Bool) → c < 128 → x ≡ (is_ascii_alphanumeric c || (c == 95)) → (one_of "$_" c || is_ascii_alphanumeric c) ≡ (one_of "$" c || x || is_among c (0x200C ∷ 0x200D ∷ []))
  same c x lt e = grind (arith, nat_tests)

part_is_small : (c : ℕ) → (one_of "$_" c || is_ascii_alphanumeric c) ≡ true → c < 128
part_is_small c h = grind (arith, nat_tests)

is_small : (c : ℕ) → c < 128 → is_ascii c ≡ true
is_small c lt = grind (arith, nat_tests)

-- over one more part that is a byte
pub over_part : (text bytes : List ℕ) (at stop : ℕ) → IsUtf8 text → bytes ≡ text → AllPass is_identifier_part text at stop → stop < length bytes →
    (one_of "$_" (get_or bytes stop 0) || is_ascii_alphanumeric (get_or bytes stop 0)) ≡ true → AllPass is_identifier_part text at (stop + 1)
over_part text bytes at stop u e h lt part =
    let c = get_or bytes stop 0 in
    let low = part_is_small c part in
    over_byte is_identifier_part text bytes at stop u e h lt low (sym (ascii_part c (is_small c low)) ∙ part)

-- where the run of those of ASCII stops
pub parts_stop : (text bytes : List ℕ) (at : ℕ) → IsUtf8 text → bytes ≡ text → IsPlace text at →
    (at < length bytes → (one_of "$_" (get_or bytes at 0) || is_ascii_alphanumeric (get_or bytes at 0)) ≡ false) → IsFalse (begins_with (λ c. is_ascii c && is_identifier_part c) (behind text at))
parts_stop text bytes at u e p none =
    elim (cases_lt at (length bytes)) [
      | inl lt ↦ elim (cases_lt (get_or bytes at 0) 128) [
        | inl low ↦
            let c = get_or bytes at 0 in
            let q = pass_byte text bytes at u e p lt low in
            ap (begins_with (λ x. is_ascii x && is_identifier_part x)) q.split ∙ second (is_ascii c) (is_identifier_part c) (sym (ascii_part c (is_small c low)) ∙ none lt)
        | inr far ↦ both_begin is_ascii is_identifier_part (behind text at)
            (no_ascii_far text at u p (subst (λ (x : List ℕ). at < length x) e lt) (subst (λ (x : List ℕ). 128 ≤ get_or x at 0) e far))
      ]
      | inr ge ↦ ap (begins_with (λ x. is_ascii x && is_identifier_part x)) (behind_end text at (subst (λ (x : List ℕ). length x ≤ at) e ge))
    ] where
      second : (a b : Bool) → b ≡ false → (a && b) ≡ false
      second a b h = grind (arith, nat_tests)

      first : (a b : Bool) → a ≡ false → (a && b) ≡ false
      first a b h = grind (arith, nat_tests)

      both_begin : (f g : ℕ → Bool) (cs : List ℕ) → IsFalse (begins_with f cs) → IsFalse (begins_with (λ x. f x && g x) cs)
      both_begin f g [] h = refl
      both_begin f g (c ∷ cs) h = first (f c) (g c) h

-- a run of those of ASCII is one of all where a character of ASCII follows it
pub ascii_run : (text : List ℕ) (at stop more c : ℕ) → AllPass is_identifier_part text at stop → IsFalse (begins_with (λ x. is_ascii x && is_identifier_part x) (behind text stop)) →
    Passed text stop more (c ∷ []) → c < 128 → IsRun is_identifier_part text at stop
ascii_run text at stop more c h s p lt =
    record {
      run = h;
      ends = ap (begins_with is_identifier_part) p.split ∙ ends (is_ascii c) (is_identifier_part c) (is_small c lt) (sym (ap (begins_with (λ x. is_ascii x && is_identifier_part x)) p.split) ∙ s);
    } where
      ends : (a b : Bool) → a ≡ true → (a && b) ≡ false → b ≡ false
      ends a b h k = grind (arith, nat_tests)

pub parts_joined : (text : List ℕ) (at mid stop : ℕ) → AllPass is_identifier_part text at mid → AllPass is_identifier_part text mid stop → AllPass is_identifier_part text at stop
parts_joined text at mid stop h k =
    record { word = h.word ++ k.word; passed = passed_on text at mid stop h.word k.word h.passed k.passed; all = all_append is_identifier_part h.word k.word h.all k.all }

-- where a character follows that fails the test, no longer text has all passing
pub all_stop : (test : ℕ → Bool) (v more : List ℕ) (c : ℕ) → IsFalse (test c) → IsFalse (list_all test (v ++ c ∷ more))
all_stop test [] more c h = first (test c) (list_all test more) h where
  first : (a b : Bool) → IsFalse a → IsFalse (a && b)
  first true b h = absurd (true_false _ refl h)
  first false b h = refl
all_stop test (d ∷ v) more c h = later (test d) (list_all test (v ++ c ∷ more)) (all_stop test v more c h) where
  later : (a b : Bool) → IsFalse b → IsFalse (a && b)
  later true b h = h
  later false b h = refl

name_longest : (c : ℕ) (parts rest : List ℕ) → IsTrue (is_identifier_start c) → IsTrue (list_all is_identifier_part parts) →
    IsFalse (begins_with is_identifier_part rest) → IsTrue (is_token IdentifierName (c ∷ parts) rest)
name_longest c parts rest s a e =
    whole (is_identifier_start c) (list_all is_identifier_part parts) (none_longer IdentifierName (c ∷ parts) rest) s a
    (none_is_longer IdentifierName (c ∷ parts) rest (λ d more behind q.
    at_more (is_identifier_start c) (list_all is_identifier_part (parts ++ d ∷ more)) (all_stop is_identifier_part parts more d (subst (λ x. IsFalse (begins_with is_identifier_part x)) q e)))) where
      whole : (a b n : Bool) → IsTrue a → IsTrue b → IsTrue n → IsTrue ((((a && b) && true) && n) && true)
      whole a b n h k l = grind (arith, nat_tests)

      at_more : (a b : Bool) → IsFalse b → IsFalse ((a && b) && true)
      at_more a b h = grind (arith, nat_tests)

pub name_word : (text : List ℕ) (at start stop c : ℕ) → Passed text at start (c ∷ []) → is_identifier_start c ≡ true → IsRun is_identifier_part text start stop →
    IsWordAt IdentifierName text at stop
name_word text at start stop c p s r =
    record {
      word = c ∷ r.run.word;
      passed = passed_on text at start stop (c ∷ []) r.run.word p r.run.passed;
      longest = name_longest c r.run.word (behind text stop) (subst IsTrue (sym s) refl) r.run.all r.ends;
    }

pub no_name : (text : List ℕ) (at stop c : ℕ) → Passed text at stop (c ∷ []) → is_identifier_start c ≡ false → NoWordAt IdentifierName text at
no_name text at stop c p s = λ w rest e h. none w rest (sym p.split ∙ e) h where
  begins : (a b n : Bool) → IsFalse a → IsTrue ((((a && b) && true) && n) && true) → ⊥
  begins a b n h k = grind (arith, nat_tests)

  nothing : (n : Bool) → IsTrue ((false && n) && true) → ⊥
  nothing n h = grind (arith, nat_tests)

  none : (w rest : List ℕ) → c ∷ behind text stop ≡ w ++ rest → IsTrue (is_token IdentifierName w rest) → ⊥
  none [] rest e h = nothing (none_longer IdentifierName [] rest) h
  none (d ∷ w) rest e h = let q : c ≡ d = cc in begins (is_identifier_start d) (list_all is_identifier_part w) (none_longer IdentifierName (d ∷ w) rest) (subst (λ x. IsFalse (is_identifier_start x)) q (subst IsFalse (sym s) refl)) h
