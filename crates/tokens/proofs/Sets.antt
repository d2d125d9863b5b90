-- Sets of characters of ASCII hold the characters that a test passes: compared one by one.
use Rattle.std.proofs.Common.{◌≡◌, ℕ, ◌<◌, Bool, true, false, List, [], ◌∷◌, IsTrue, refl, arith}
use Rattle.std.specs.Bool.{beq}
use Rattle.std.specs.Char.{is_ascii}
use Rattle.std.proofs.lemmas.Bool.Decides.{nat_tests}
use Rattle.tokens.specs.Alphabet.{is_among}
use Rattle.tokens.specs.TokenStarts.{is_mark}
use Rattle.tokens.specs.PunctuatorSets.{alone}
use Rattle.tokens.specs.Sets.{has_bit}
use Rattle.tokens.proofs.Beginnings.{true_false}
use Rattle.tokens.proofs.TokenUniqueness.{all_from, from_range}

-- two tests agree below a number
pub agree : (f test : ℕ → Bool) (n : ℕ) → IsTrue (all_from (λ x. beq (f x) (test x)) 0 n) → (c : ℕ) → c < n → f c ≡ test c
agree f test n h c lt = same (f c) (test c) (from_range (λ x. beq (f x) (test x)) 0 n c h (omega arith) (omega arith)) where
  same : (a b : Bool) → IsTrue (beq a b) → a ≡ b
  same true true h = refl
  same true false h = absurd (true_false _ h refl)
  same false true h = absurd (true_false _ h refl)
  same false false h = refl

set_is : (set : List ℕ) (test : ℕ → Bool) → IsTrue (all_from (λ x. beq (has_bit set x) (test x)) 0 128) → (c : ℕ) → c < 128 → has_bit set c ≡ test c
set_is set test h c lt = agree (has_bit set) test 128 h c lt

small : (c : ℕ) → is_ascii c ≡ true → c < 128
small c e = grind (arith, nat_tests)

pub mark_bits : (c : ℕ) → is_ascii c ≡ true → has_bit (0xfc003f6200000000 ∷ 0x5800000068000000 ∷ []) c ≡ is_mark c
mark_bits c e = set_is (0xfc003f6200000000 ∷ 0x5800000068000000 ∷ []) is_mark refl c (small c e)

pub alone_bits : (c : ℕ) → is_ascii c ≡ true → has_bit (0x0c00130000000000 ∷ 0x6800000028000000 ∷ []) c ≡ is_among c alone
alone_bits c e = set_is (0x0c00130000000000 ∷ 0x6800000028000000 ∷ []) (λ x. is_among x alone) refl c (small c e)
