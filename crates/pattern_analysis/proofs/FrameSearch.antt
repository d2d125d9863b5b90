-- The innermost frame in which a group stands, by a search in order.
use Rattle.std.proofs.Common.{◌≡◌, ℕ, zero, suc, ◌-◌, ◌<◌, ◌≤◌, nat_lt, ltb, true, false, List, [], ◌∷◌, ◌++◌, length, get_or, reverse, if◌then◌else◌, refl, sym, ap, ◌∙◌, arith}
use Rattle.std.specs.List.Sorted.{IsPartitionPoint}
use Rattle.std.proofs.lemmas.List.{reverse-append}
use Rattle.pattern_analysis.specs.declared.frame.Frame.{Frame}
use Rattle.pattern_analysis.specs.UselessReferences.{outermost, holding}

abbrev chosen : ℕ → Frame → Frame → Frame
chosen n f other = if nat_lt f.first n then f else other

holding_more : (n : ℕ) (other f : Frame) (around : List Frame) → holding n other (around ++ f ∷ []) ≡ holding n (chosen n f other) around
holding_more n other f [] = refl
holding_more n other f (g ∷ around) = ap (λ x. if nat_lt g.first n then g else x) (holding_more n other f around)

holding_first : (n : ℕ) (other f : Frame) (frames : List Frame) → holding n other (reverse (f ∷ frames)) ≡ holding n (chosen n f other) (reverse frames)
holding_first n other f frames = ap (holding n other) (reverse-append (f ∷ []) frames) ∙ holding_more n other f (reverse frames)

-- the frame before an index, the outermost first
abbrev before : Frame → List Frame → ℕ → Frame
before other frames zero = other
before other [] (suc i) = other
before other (f ∷ frames) (suc i) = before f frames i

before_at : (other : Frame) (frames : List Frame) (i : ℕ) (d : Frame) → i < length frames → get_or frames i d ≡ before other frames (suc i)
before_at other [] i d l = absurd (omega (arith, l))
before_at other (f ∷ frames) zero d l = refl
before_at other (f ∷ frames) (suc i) d l = before_at f frames i d (omega (arith, l))

abbrev Point : ℕ → List Frame → ℕ → Type 0
Point n frames i = IsPartitionPoint (λ f. ltb f.first n ≡ true) (λ f. ltb f.first n ≡ false) frames i

holding_before : (n : ℕ) (other : Frame) (frames : List Frame) (i : ℕ) → i ≤ length frames → Point n frames i → holding n other (reverse frames) ≡ before other frames i
holding_before n other [] zero l p = refl
holding_before n other [] (suc i) l p = absurd (omega (arith, l))
holding_before n other (f ∷ frames) zero l p =
    holding_first n other f frames ∙ ap (λ b. holding n (if b then f else other) (reverse frames)) (p.1 zero f (omega arith) (omega arith))
    ∙ holding_before n other frames zero (omega arith) ((λ k d m r. absurd (omega (arith, r))), (λ k d m r. p.1 (suc k) d (omega arith) (omega (arith, r))))
holding_before n other (f ∷ frames) (suc i) l p =
    holding_first n other f frames ∙ ap (λ b. holding n (if b then f else other) (reverse frames)) (p.0 zero f (omega arith) (omega arith))
    ∙ holding_before n f frames i (omega (arith, l))
    ((λ k d m r. p.0 (suc k) d (omega arith) (omega (arith, r))), (λ k d m r. p.1 (suc k) d (omega (arith, m)) (omega (arith, r))))

pub none_holds : (n : ℕ) (frames : List Frame) (i : ℕ) → Point n frames i → i ≡ 0 → outermost ≡ holding n outermost (reverse frames)
none_holds n frames zero p e = sym (holding_before n outermost frames zero (omega arith) p)
none_holds n frames (suc i) p e = absurd (omega (arith, e))

pub one_holds : (n : ℕ) (frames : List Frame) (i : ℕ) (d : Frame) → i ≤ length frames → Point n frames i → ¬ (i ≡ 0) → get_or frames (i - 1) d ≡ holding n outermost (reverse frames)
one_holds n frames zero d l p m = absurd (m refl)
one_holds n frames (suc i) d l p m = ap (λ k. get_or frames k d) (one_less i) ∙ before_at outermost frames i d (omega (arith, l)) ∙ sym (holding_before n outermost frames (suc i) l p) where
  one_less : (i : ℕ) → suc i - 1 ≡ i
  one_less i = omega arith
