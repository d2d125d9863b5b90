-- Line ends: the first from a place on, and where none stands between two places.
use Rattle.std.proofs.Common.{◌≡◌, ◌≤◌, ◌<◌, ◌+◌, ◌-◌, ℕ, zero, suc, Bool, true, false, List, length, get_or, drop, get_or-take, get_or-drop, length-take, length-drop, inl, inr, refl, sym, ap, ◌∙◌, subst, arith, if◌then◌else◌}
use Rattle.std.specs.List.{slice_range}
use Rattle.std.proofs.lemmas.Bool.{cases_lt}
use Rattle.std.proofs.lemmas.Bool.Decides.{nat_tests}
use Rattle.memchr.specs.Find.{Nowhere, NoneBefore, Passes, is_byte3}
use Rattle.source_text.specs.LineBytes.{continues, ends_line_at, ends_line_in, after_bytes, NoLineEnds, IsNextLine}
use Rattle.source_text.proofs.Lines.{at_next, turn_at_end}

-- a byte that may begin a line end
abbrev pub may_end : ℕ → Bool
may_end = is_byte3 10 13 226

may_end_else : (b b1 b2 : ℕ) → may_end b ≡ false → ends_line_at b b1 b2 ≡ false
may_end_else b b1 b2 h = grind (arith, nat_tests)

no_end_inside : (b b1 b2 : ℕ) → ends_line_at b b1 b2 ≡ true → continues b ≡ false
no_end_inside b b1 b2 h = grind (arith, nat_tests)

-- a byte of a part of a text
pub in_part : (bs : List ℕ) (i j k : ℕ) → i + k < j → j ≤ length bs → get_or (slice_range bs i j) k 0 ≡ get_or bs (i + k) 0
in_part bs i j k lt within = get_or-take (j - i) (drop i bs) k 0 (omega arith) ∙ get_or-drop i bs k 0

part_length : (bs : List ℕ) (i j : ℕ) → i ≤ j → j ≤ length bs → length (slice_range bs i j) + i ≡ j
part_length bs i j ordered within = omega (arith, length-take (j - i) (drop i bs), length-drop i bs)

not_true : (b : Bool) → (b ≡ true → ⊥) → b ≡ false
not_true true h = absurd (h refl)
not_true false h = refl

-- no byte of a part up to a place may begin a line end
passed_over : (bs : List ℕ) (from i j k : ℕ) → i + k ≤ j → j ≤ length bs → NoLineEnds bs from i → Nowhere (Passes may_end (slice_range bs i j)) 0 k → NoLineEnds bs from (i + k)
passed_over bs from i j k inside within none nowhere = λ n low high.
    elim (cases_lt n i) [
      | inl l ↦ none n low l
      | inr l ↦
          let m = n - i in
          let n-is : i + m ≡ n = omega arith in
          let byte : get_or (slice_range bs i j) m 0 ≡ get_or bs n 0 = in_part bs i j m (omega arith) within ∙ ap (λ x. get_or bs x 0) n-is in
          may_end_else (get_or bs n 0) (get_or bs (n + 1) 0) (get_or bs (n + 2) 0)
          (not_true (may_end (get_or bs n 0)) (λ e. nowhere m (omega arith) (omega arith) (ap may_end byte ∙ e)))
    ]

-- a search of a part finds the first byte there that may begin a line end
pub none_found : (bs : List ℕ) (from i j k : ℕ) → i ≤ j → j ≤ length bs → NoLineEnds bs from i → NoneBefore (Passes may_end (slice_range bs i j)) 0 (length (slice_range bs i j)) k → NoLineEnds bs from (i + k)
none_found bs from i j k ordered within none found =
    let high = found.high in
    let len = part_length bs i j ordered within in
    passed_over bs from i j k (omega arith) within none found.before

pub found_within : (bs : List ℕ) (i j k : ℕ) → i ≤ j → j ≤ length bs → NoneBefore (Passes may_end (slice_range bs i j)) 0 (length (slice_range bs i j)) k → i + k + 1 ≤ j
found_within bs i j k ordered within found =
    let high = found.high in
    let len = part_length bs i j ordered within in
    omega arith

-- a search of a part finds none
pub none_left : (bs : List ℕ) (from i j : ℕ) → i ≤ j → j ≤ length bs → NoLineEnds bs from i → Nowhere (Passes may_end (slice_range bs i j)) 0 (length (slice_range bs i j)) → NoLineEnds bs from j
none_left bs from i j ordered within none nowhere =
    let len = part_length bs i j ordered within in
    let e : i + length (slice_range bs i j) ≡ j = omega arith in
    subst (λ x. NoLineEnds bs from x) e (passed_over bs from i j (length (slice_range bs i j)) (omega arith) within none nowhere)

-- one more place that ends no line
pub none_at : (bs : List ℕ) (from at : ℕ) → NoLineEnds bs from at → ends_line_in bs at ≡ false → NoLineEnds bs from (at + 1)
none_at bs from at none stays = λ n low high.
    elim (cases_lt n at) [
      | inl l ↦ none n low l
      | inr l ↦ let e : at ≡ n = omega arith in subst (λ x. ends_line_in bs x ≡ false) e stays
    ]

-- a line goes on where none ends
stays_on_line : (q : ℕ × ℕ) (inside ends : Bool) → ends ≡ false → (if inside then q else (if ends then (q.0 + 1, 1) else (q.0, q.1 + 1))).0 ≡ q.0
stays_on_line q true ends h = refl
stays_on_line q false true h = absurd (cc h)
stays_on_line q false false h = refl

same_line : (bs : List ℕ) (i n : ℕ) → i + n ≤ length bs → NoLineEnds bs i (i + n) → (after_bytes (1, 1) (i + n) bs).0 ≡ (after_bytes (1, 1) i bs).0
same_line bs i zero within none = let e : i + 0 ≡ i = omega arith in ap (λ m. (after_bytes (1, 1) m bs).0) e
same_line bs i (suc n) within none =
    let e : i + suc n ≡ (i + n) + 1 = omega arith in
    let lt : i + n < length bs = omega arith in
    ap (λ m. (after_bytes (1, 1) m bs).0) e ∙ ap (λ q. q.0) (at_next (i + n) bs lt)
    ∙ stays_on_line (after_bytes (1, 1) (i + n) bs) (continues (get_or bs (i + n) 0)) (ends_line_in bs (i + n)) (none (i + n) (omega arith) (omega arith))
    ∙ same_line bs i n (omega arith) (λ m low high. none m low (omega arith))

-- line and column behind the first line end from a place on
pub behind_line_end : (bs : List ℕ) (line column from next : ℕ) → next ≤ length bs → ◌≡◌ {A = ℕ × ℕ} (line, column) (after_bytes (1, 1) from bs) → IsNextLine bs from next →
    ◌≡◌ {A = ℕ × ℕ} (line + 1, 1) (after_bytes (1, 1) next bs)
behind_line_end bs line column from next within e h =
    let reaches = h.reaches in
    let ordered = h.ordered in
    let n = h.at - from in
    let to-at : from + n ≡ h.at = omega arith in
    let same : (after_bytes (1, 1) h.at bs).0 ≡ line =
    ap (λ m. (after_bytes (1, 1) m bs).0) (sym to-at)
    ∙ same_line bs from n (omega arith) (subst (λ m. NoLineEnds bs from m) (sym to-at) h.passed)
    ∙ ap (λ q. q.0) (sym e) in
    ap (λ l. (l + 1, 1)) (sym same)
    ∙ turn_at_end (after_bytes (1, 1) h.at bs) h.at bs (omega arith) refl (no_end_inside (get_or bs h.at 0) (get_or bs (h.at + 1) 0) (get_or bs (h.at + 2) 0) h.ends) h.ends
    ∙ ap (λ m. after_bytes (1, 1) m bs) (sym reaches)
