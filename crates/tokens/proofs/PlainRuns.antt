-- Runs of plain characters, in comments and in strings.
use Rattle.std.proofs.Common.{◌≡◌, ℕ, ◌<◌, ◌+◌, Bool, true, false, not, ◌&&◌, ◌||◌, ◌==◌, nat_eq, get_or, length, List, [], ◌∷◌, ◌++◌, Option, Some, None, if◌then◌else◌, IsTrue, refl, sym, ap, ◌∙◌, arith}
use Rattle.std.specs.List.{list_all}
use Rattle.std.specs.Str.{IsUtf8}
use Rattle.std.specs.Char.Escape.{encode_utf16}
use Rattle.std.proofs.lemmas.Bool.Decides.{nat_tests}
use Rattle.tokens.specs.Alphabet.{one_of, line_feed, carriage_return}
use Rattle.tokens.specs.Closers.{is_plain}
use Rattle.tokens.specs.Escapes.{Piece, escape, more_of}
use Rattle.tokens.specs.Reading.{behind}
use Rattle.tokens.specs.Scanned.{AllPass}
use Rattle.tokens.specs.declared.plain.TheConstants.{PLAIN}
use Rattle.tokens.proofs.Beginnings.{true_false}
use Rattle.tokens.proofs.PassedCharacters.{passed_on}
use Rattle.tokens.proofs.Sets.{agree}
use Rattle.tokens.proofs.StringScans.{before, only_if_some, closing, all_before, all_before_append, InString}
use Rattle.tokens.proofs.TriviaSteps.{over_byte}

pub plain_rows : (c : ℕ) → c < 256 → not (nat_eq (get_or PLAIN c 0) 0) ≡ is_plain c
plain_rows c lt = agree (λ x. not (nat_eq (get_or PLAIN x 0) 0)) is_plain 256 refl c lt

-- over one more plain byte
pub over_plain : (text bytes : List ℕ) (at stop : ℕ) → IsUtf8 text → bytes ≡ text → AllPass is_plain text at stop → stop < length bytes → is_plain (get_or bytes stop 0) ≡ true →
    AllPass is_plain text at (stop + 1)
over_plain text bytes at stop u e h lt t = over_byte is_plain text bytes at stop u e h lt (low (get_or bytes stop 0) t) t where
  low : (c : ℕ) → is_plain c ≡ true → c < 128
  low c t = grind (arith, nat_tests)

-- behind a quote no plain character ends the string, and none begins an escape
plain_step : (quote c : ℕ) (cs : List ℕ) → IsTrue (one_of "'\"" quote) → IsTrue (is_plain c) → closing quote 0 (c ∷ cs) ≡ before c (closing quote 0 cs)
plain_step quote c cs q h = by_tests (c == quote) (c == line_feed) (c == carriage_return) (one_of "\\" c) (no_quote quote c q h) (no_feed c h) (no_return c h) (no_escape c h) where
  no_quote : (quote c : ℕ) → IsTrue (one_of "'\"" quote) → IsTrue (is_plain c) → (c == quote) ≡ false
  no_quote quote c q h = grind (arith, nat_tests)

  no_feed : (c : ℕ) → IsTrue (is_plain c) → (c == line_feed) ≡ false
  no_feed c h = grind (arith, nat_tests)

  no_return : (c : ℕ) → IsTrue (is_plain c) → (c == carriage_return) ≡ false
  no_return c h = grind (arith, nat_tests)

  no_escape : (c : ℕ) → IsTrue (is_plain c) → one_of "\\" c ≡ false
  no_escape c h = grind (arith, nat_tests)

  Found : Bool → Option Piece
  Found d = if d then escape cs else Some (record { more = 0; units = encode_utf16 c })

  by_tests : (a b r d : Bool) → a ≡ false → b ≡ false → r ≡ false → d ≡ false →
      (if a then Some (c ∷ []) else if b || r then None else only_if_some (Found d) (before c (closing quote (more_of (Found d)) cs))) ≡ before c (closing quote 0 cs)
  by_tests false false false false h k l m = refl
  by_tests true b r d h k l m = absurd (true_false _ refl h)
  by_tests false true r d h k l m = absurd (true_false _ refl k)
  by_tests false false true d h k l m = absurd (true_false _ refl l)
  by_tests false false false true h k l m = absurd (true_false _ refl m)

plain_word : (quote : ℕ) (w cs : List ℕ) → IsTrue (one_of "'\"" quote) → IsTrue (list_all is_plain w) → closing quote 0 (w ++ cs) ≡ all_before w (closing quote 0 cs)
plain_word quote [] cs q h = refl
plain_word quote (c ∷ w) cs q h =
    plain_step quote c (w ++ cs) q (first (is_plain c) (list_all is_plain w) h) ∙ ap (before c) (plain_word quote w cs q (rest (is_plain c) (list_all is_plain w) h)) where
      first : (a b : Bool) → IsTrue (a && b) → IsTrue a
      first a b h = grind (arith, nat_tests)

      rest : (a b : Bool) → IsTrue (a && b) → IsTrue b
      rest a b h = grind (arith, nat_tests)

-- over plain characters of a string
pub string_plain : (quote : ℕ) (text : List ℕ) (at stop more : ℕ) → IsTrue (one_of "'\"" quote) → InString quote text at stop → AllPass is_plain text stop more → InString quote text at more
string_plain quote text at stop more q h p =
    record {
      word = h.word ++ p.word;
      passed = passed_on text at stop more h.word p.word h.passed p.passed;
      same = h.same ∙ ap (all_before h.word) (ap (closing quote 0) p.passed.split ∙ plain_word quote p.word (behind text more) q p.all)
          ∙ sym (all_before_append h.word p.word (closing quote 0 (behind text more)));
    }
