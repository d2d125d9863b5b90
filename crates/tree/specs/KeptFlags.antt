-- Flags in two bytes, and back.
use Rattle.std.proofs.Common.{◌≡◌, ℕ, zero, suc, ◌<◌, ◌≤◌, Bool, true, false, ◌&&◌, nat_eq, inl, inr, refl, subst, sym, arith, ◌*◌, ◌/◌, ◌%◌, bit_and}
use mir.Val.{bool_byte}
use Rattle.std.proofs.Math.Nat.{eq-or-lt_of_le}
use Rattle.std.proofs.lemmas.Bool.Decides.{nat_tests}
use Rattle.std.proofs.lemmas.Nat.Bits.{and_high}
use Rattle.tree.specs.FlagBits.{has_bit, flags_in, bits_of}
use Rattle.tree.specs.declared.kind.Flags.{Flags}
use Rattle.tree.specs.declared.kind.Form.{Form}
use Rattle.tree.specs.declared.kind.Form.TheVariants.{Init}

-- each of so many numbers is that of the flags in it
abbrev are_kept : ℕ → Bool
are_kept zero = true
are_kept (suc n) = nat_eq (bits_of (flags_in Init n)) n && are_kept n

first : (x y : Bool) → (x && y) ≡ true → x ≡ true
first true y e = refl
first false y e = absurd (cc)

second : (x y : Bool) → (x && y) ≡ true → y ≡ true
second true y e = e
second false y e = absurd (cc)

same : (m n : ℕ) → nat_eq m n ≡ true → m ≡ n
same m n e = grind (arith, nat_tests, e)

kept_at : (k n : ℕ) → are_kept k ≡ true → n < k → bits_of (flags_in Init n) ≡ n
kept_at zero n e l = absurd (omega (arith, l))
kept_at (suc k) n e l =
    elim (eq-or-lt_of_le {n = n} {m = k} (omega (arith, l))) as (λ _. bits_of (flags_in Init n) ≡ n) [
      | inl at ↦ subst (λ m. bits_of (flags_in Init m) ≡ m) (sym at) (same _ k (first (nat_eq (bits_of (flags_in Init k)) k) (are_kept k) e))
      | inr low ↦ kept_at k n (second (nat_eq (bits_of (flags_in Init k)) k) (are_kept k) e) low
    ]

pub bits_of-flags_in : (form : Form) (n : ℕ) → n < 64 → bits_of (flags_in form n) ≡ n
bits_of-flags_in form n l = kept_at 64 n refl l

set : (n digit power : ℕ) (b : Bool) → 0 < power → bit_and n power ≡ digit * power → digit ≡ bool_byte b → has_bit n power ≡ b
set n digit power true l e h = let is : bit_and n power ≡ power = rw (e, h) (omega arith) in grind (arith, nat_tests, l, is)
set n digit power false l e h = let is : bit_and n power ≡ 0 = rw (e, h) (omega arith) in grind (arith, nat_tests, is)

one : (b : Bool) → bool_byte b ≤ 1
one true = omega arith
one false = omega arith

pub flags_in-bits_of : (g : Flags) → flags_in g.form (bits_of g) ≡ g
flags_in-bits_of g =
    let n = bits_of g in
    let a = one g.computed in
    let b = one g.optional in
    let c = one g.is_static in
    let d = one g.prefix in
    let e = one g.directive in
    let f = one g.expression in
    let computed = set n (n / 1 % 2) 1 g.computed (omega arith) (and_high n 1 0) (omega (arith, a, b, c, d, e, f)) in
    let optional = set n (n / 2 % 2) 2 g.optional (omega arith) (and_high n 1 1) (omega (arith, a, b, c, d, e, f)) in
    let is_static = set n (n / 4 % 2) 4 g.is_static (omega arith) (and_high n 1 2) (omega (arith, a, b, c, d, e, f)) in
    let prefix = set n (n / 8 % 2) 8 g.prefix (omega arith) (and_high n 1 3) (omega (arith, a, b, c, d, e, f)) in
    let directive = set n (n / 16 % 2) 16 g.directive (omega arith) (and_high n 1 4) (omega (arith, a, b, c, d, e, f)) in
    let expression = set n (n / 32 % 2) 32 g.expression (omega arith) (and_high n 1 5) (omega (arith, a, b, c, d, e, f)) in
    λ i. record { computed = computed i; optional = optional i; is_static = is_static i; prefix = prefix i; directive = directive i; expression = expression i; form = g.form }
