-- Units that are compared with a word's bytes, one by one.
use Rattle.std.proofs.Common.{◌≡◌, ℕ, zero, suc, ◌+◌, ◌<◌, ◌≤◌, Bool, true, false, List, [], ◌∷◌, ◌++◌, length, get_or, take, unwrap_or, Option, Some, None, refl, sym, ap, ◌∙◌, arith, append-nil, append_assoc}
use Rattle.std.specs.Prelude.{◌&&◌, ◌-◌, ◌/◌, ◌%◌, cond, nat_eq, nat_lt}
use Rattle.std.specs.Str.{bytes_eq, chars}
use Rattle.std.proofs.lemmas.Bool.Decides.{nat_tests}
use Rattle.tokens.specs.Escapes.{unescaped}
use Rattle.tokens.specs.Escaped.{units_of, IsOther}
use Rattle.tokens.specs.Reading.{behind}
use Rattle.tokens.proofs.LiteralValues.{InUnits, units_after}

same : (c : ℕ) → nat_eq c c ≡ true
same c = grind (arith, nat_tests)

other : (c u : ℕ) → (c ≡ u → ⊥) → nat_eq u c ≡ false
other c u h = grind (arith, nat_tests)

-- a unit that is not the next byte
differs : (word : List ℕ) (m u : ℕ) (us : List ℕ) → (m < length word → get_or word m 0 ≡ u → ⊥) → bytes_eq (take m word ++ u ∷ us) word ≡ false
differs [] zero u us h = refl
differs [] (suc m) u us h = refl
differs (c ∷ word) zero u us h = ap (λ b. b && bytes_eq us word) (other c u (λ e. h (omega arith) e))
differs (c ∷ word) (suc m) u us h = ap (λ b. b && bytes_eq (take m word ++ u ∷ us) word) (same c) ∙ differs word m u us (λ l e. h (omega (arith, l)) e)

-- as many bytes as the word has
pub all_matched : (word : List ℕ) (m : ℕ) → m ≤ length word → nat_eq m (length word) ≡ bytes_eq (take m word) word
all_matched [] zero l = refl
all_matched [] (suc m) l = absurd (omega (arith, l))
all_matched (c ∷ word) zero l = grind (arith, nat_tests)
all_matched (c ∷ word) (suc m) l = succ (length word) ∙ all_matched word m (omega (arith, l)) ∙ sym (ap (λ b. b && bytes_eq (take m word) word) (same c))
  where
    succ : (n : ℕ) → nat_eq (suc m) (suc n) ≡ nat_eq m n
    succ n = grind (arith, nat_tests)

empty_differs : (word : List ℕ) → 0 < length word → false ≡ bytes_eq [] word
empty_differs [] l = absurd (omega (arith, l))
empty_differs (c ∷ word) l = refl

none_differs : (word : List ℕ) (o : Option (List ℕ)) → 0 < length word → o ≡ None → false ≡ bytes_eq (unwrap_or o []) word
none_differs word o l e = empty_differs word l ∙ ap (λ x. bytes_eq (unwrap_or x []) word) (sym e)

-- a unit that is another
pub no_match : (text word out us : List ℕ) (at m : ℕ) → 0 < length word → InUnits text at (out ++ us) → out ≡ take m word → IsOther word m us → false ≡ bytes_eq (unwrap_or (unescaped (chars text)) []) word
no_match text word out us at m l h e k = of (unescaped (behind text at)) h.same
  where
    of : (o : Option (List ℕ)) → unescaped (chars text) ≡ units_after (out ++ us) o → false ≡ bytes_eq (unwrap_or (unescaped (chars text)) []) word
    of None f = none_differs word (unescaped (chars text)) l f
    of (Some vs) f = sym (ap (λ x. bytes_eq (unwrap_or x []) word) f ∙ ap (λ x. bytes_eq ((x ++ us) ++ vs) word) e ∙ k vs)

-- at the end
pub at_end : (text word : List ℕ) (at m : ℕ) → m ≤ length word → InUnits text at (take m word) → behind text at ≡ [] → nat_eq m (length word) ≡ bytes_eq (unwrap_or (unescaped (chars text)) []) word
at_end text word at m l h e =
    all_matched word m l ∙ sym (ap (λ x. bytes_eq (unwrap_or x []) word) (h.same ∙ ap (λ x. units_after (take m word) (unescaped x)) e) ∙ ap (λ x. bytes_eq x word) (append-nil (take m word)))

-- a value that isn't the next byte: what is above U+FFFF has two units, which are no bytes
pub another : (word : List ℕ) (m v : ℕ) → get_or word m 0 < 256 → (get_or word m 0 ≡ v → ⊥) → IsOther word m (units_of (Some v))
another word m v b h more = of (nat_lt v 65536)
  where
    of : (q : Bool) → bytes_eq ((take m word ++ cond q (v ∷ []) ((0xD800 + (v - 0x1_0000) / 0x400) ∷ (0xDC00 + (v - 0x1_0000) % 0x400) ∷ [])) ++ more) word ≡ false
    of true = ap (λ x. bytes_eq x word) (append_assoc (take m word) (v ∷ []) more) ∙ differs word m v more (λ l. h)
    of false =
        ap (λ x. bytes_eq x word) (append_assoc (take m word) ((0xD800 + (v - 0x1_0000) / 0x400) ∷ (0xDC00 + (v - 0x1_0000) % 0x400) ∷ []) more)
        ∙ differs word m (0xD800 + (v - 0x1_0000) / 0x400) ((0xDC00 + (v - 0x1_0000) % 0x400) ∷ more) (λ l e. omega (arith, b, e))
