-- Frames and groups stay in order.
use Rattle.std.proofs.Common.{◌≡◌, ℕ, zero, suc, ◌+◌, ◌-◌, ◌<◌, ◌≤◌, List, [], ◌∷◌, ◌++◌, length, get_or, take, refl, sym, ap, ◌∙◌, subst, arith, length-append, ◌⊎◌, inl, inr}
use Rattle.std.specs.List.Sorted.{IsNonDecreasing, IsNonDecreasingBy}
use Rattle.std.proofs.lemmas.Bool.{cases_lt}
use Rattle.std.proofs.lemmas.List.{get_or_append_left, get_or-take, take_all}
use Rattle.std.proofs.Math.Seq.{get_or-append_seam}
use Rattle.std.proofs.lemmas.List.Sorted.{IsNonDecreasingBy-take, IsNonDecreasingBy-push}
use Rattle.pattern_analysis.specs.declared.frame.Frame.{Frame}
use Rattle.pattern_analysis.specs.ReadReferences.{IsFront, IsInOrder}

abbrev first : Frame → ℕ
first f = f.first

-- without the last one
init_rises : (frames : List Frame) (f : Frame) → IsNonDecreasingBy first (frames ++ f ∷ []) → IsNonDecreasingBy first frames
init_rises frames f up i j d l m =
    let n = length-append frames (f ∷ []) in
    subst (λ x. x ≤ (get_or frames j d).first) (ap first (get_or_append_left frames (f ∷ []) d i (omega (arith, l, m))))
    (subst (λ x. (get_or (frames ++ f ∷ []) i d).first ≤ x) (ap first (get_or_append_left frames (f ∷ []) d j m)) (up i j d l (omega (arith, m, n))))

last_rises : (frames : List Frame) (f g : Frame) → IsNonDecreasingBy first ((frames ++ f ∷ []) ++ g ∷ []) → f.first ≤ g.first
last_rises frames f g up =
    let n = length-append frames (f ∷ []) in
    let m = length-append (frames ++ f ∷ []) (g ∷ []) in
    let a : get_or ((frames ++ f ∷ []) ++ g ∷ []) (length frames) f ≡ f =
    get_or_append_left (frames ++ f ∷ []) (g ∷ []) f (length frames) (omega (arith, n)) ∙ get_or-append_seam frames f [] f in
    let b : get_or ((frames ++ f ∷ []) ++ g ∷ []) (length (frames ++ f ∷ [])) f ≡ g = get_or-append_seam (frames ++ f ∷ []) g [] f in
    subst (λ x. x ≤ g.first) (ap first a)
    (subst (λ x. (get_or ((frames ++ f ∷ []) ++ g ∷ []) (length frames) f).first ≤ x) (ap first b) (up (length frames) (length (frames ++ f ∷ [])) f (omega (arith, n)) (omega (arith, m))))

-- frames around, of those that are in order
pub around_rises : (frame : Frame) (count : ℕ) (around : List Frame) (kept : List ℕ) → IsInOrder frame count around kept → IsNonDecreasingBy first around
around_rises frame count around kept h = init_rises around frame h.nested

rise_to : (around : List Frame) (frame next : Frame) → IsNonDecreasingBy first (around ++ frame ∷ []) → frame.first ≤ next.first → IsNonDecreasingBy first (around ++ next ∷ [])
rise_to around frame next up l = IsNonDecreasingBy-push first around next (init_rises around frame up) (λ d n. last d n) where
  last : (d : Frame) → 0 < length around → (get_or around (length around - 1) d).first ≤ next.first
  last d n =
      let m = length-append around (frame ∷ []) in
      let a = up (length around - 1) (length around) d (omega (arith, n)) (omega (arith, m)) in
      let b : (get_or (around ++ frame ∷ []) (length around - 1) d).first ≡ (get_or around (length around - 1) d).first =
      ap first (get_or_append_left around (frame ∷ []) d (length around - 1) (omega (arith, n))) in
      let e : (get_or (around ++ frame ∷ []) (length around) d).first ≡ frame.first = ap first (get_or-append_seam around frame [] d) in
      omega (arith, a, b, e, l)

-- another frame that begins there
pub order_same : (frame next : Frame) (count other : ℕ) (around : List Frame) (kept : List ℕ) → next.first ≡ frame.first → other ≡ count → IsInOrder frame count around kept →
    IsInOrder next other around kept
order_same frame next count other around kept e n h = record {
  nested = rise_to around frame next h.nested (omega (arith, e));
  begun = let b = h.begun in omega (arith, e, n, b);
  rising = h.rising;
  below = λ k l. let b = h.below k l in omega (arith, b, n);
}

pub whole_front : (kept : List ℕ) → IsFront kept kept
whole_front kept = record { count = length kept; same = sym (take_all (length kept) kept (omega arith)) }

taken_few : (i : ℕ) (numbers : List ℕ) (k : ℕ) → k < length (take i numbers) → (k < i) × (k < length numbers)
taken_few zero numbers k l = absurd (omega (arith, l))
taken_few (suc i) [] k l = absurd (omega (arith, l))
taken_few (suc i) (n ∷ numbers) zero l = (omega arith, omega arith)
taken_few (suc i) (n ∷ numbers) (suc k) l = let h = taken_few i numbers k (omega (arith, l)) in let a = h.0 in let b = h.1 in (omega (arith, a), omega (arith, b))

-- behind a frame: groups at the end may be left out
pub order_behind : (frame outer : Frame) (count : ℕ) (around rest : List Frame) (kept left : List ℕ) → around ≡ rest ++ outer ∷ [] → IsFront left kept → IsInOrder frame count around kept →
    IsInOrder outer count rest left
order_behind frame outer count around rest kept left e f h =
    let nested : IsNonDecreasingBy first ((rest ++ outer ∷ []) ++ frame ∷ []) = subst (λ x. IsNonDecreasingBy first (x ++ frame ∷ [])) e h.nested in
    record {
      nested = init_rises (rest ++ outer ∷ []) frame nested;
      begun = let a = last_rises rest outer frame nested in let b = h.begun in omega (arith, a, b);
      rising = subst IsNonDecreasing (sym f.same) (IsNonDecreasingBy-take (λ x. x) f.count kept h.rising);
      below = λ k l. low k (subst (λ x. k < length x) f.same l);
    } where
      low : (k : ℕ) → k < length (take f.count kept) → get_or left k 0 ≤ count
      low k l =
          let n = taken_few f.count kept k l in
          let b = h.below k n.1 in
          let s : get_or left k 0 ≡ get_or kept k 0 = ap (λ x. get_or x k 0) f.same ∙ get_or-take f.count kept k 0 n.0 in
          omega (arith, b, s)

-- in a frame
pub order_in : (frame next : Frame) (count : ℕ) (around more : List Frame) (kept : List ℕ) → more ≡ around ++ frame ∷ [] → IsInOrder frame count around kept → frame.first ≤ next.first →
    next.first ≤ count → IsInOrder next count more kept
order_in frame next count around more kept e h l m = record {
  nested = subst (λ x. IsNonDecreasingBy first (x ++ next ∷ [])) (sym e) (IsNonDecreasingBy-push first (around ++ frame ∷ []) next h.nested (λ d n. last d));
  begun = m;
  rising = h.rising;
  below = h.below;
} where
  last : (d : Frame) → (get_or (around ++ frame ∷ []) (length (around ++ frame ∷ []) - 1) d).first ≤ next.first
  last d =
      let n = length-append around (frame ∷ []) in
      let i : length (around ++ frame ∷ []) - 1 ≡ length around = omega (arith, n) in
      subst (λ x. x ≤ next.first) (sym (ap (λ k. (get_or (around ++ frame ∷ []) k d).first) i ∙ ap first (get_or-append_seam around frame [] d))) l

-- one group more
pub order_numbered : (frame : Frame) (count : ℕ) (around : List Frame) (kept more : List ℕ) → IsInOrder frame count around kept → more ≡ kept ++ (count + 1) ∷ [] →
    IsInOrder frame (count + 1) around more
order_numbered frame count around kept more h e = record {
  nested = h.nested;
  begun = let b = h.begun in omega (arith, b);
  rising = subst IsNonDecreasing (sym e) (IsNonDecreasingBy-push (λ x. x) kept (count + 1) h.rising (λ d n. last d n));
  below = λ k l. below k (subst (λ x. k < length x) e l) (cases_lt k (length kept));
} where
  last : (d : ℕ) → 0 < length kept → get_or kept (length kept - 1) d ≤ count + 1
  last d n = let b = h.below (length kept - 1) (omega (arith, n)) in let s = same d n in omega (arith, b, s) where
    same : (d : ℕ) → 0 < length kept → get_or kept (length kept - 1) d ≡ get_or kept (length kept - 1) 0
    same d n = default kept (length kept - 1) d (omega (arith, n)) where
      default : (xs : List ℕ) (k d : ℕ) → k < length xs → get_or xs k d ≡ get_or xs k 0
      default [] k d l = absurd (omega (arith, l))
      default (x ∷ xs) zero d l = refl
      default (x ∷ xs) (suc k) d l = default xs k d (omega (arith, l))

  below : (k : ℕ) → k < length (kept ++ (count + 1) ∷ []) → ◌⊎◌ (k < length kept) (length kept ≤ k) → get_or more k 0 ≤ count + 1
  below k l (inl m) =
      let b = h.below k m in
      let s : get_or more k 0 ≡ get_or kept k 0 = ap (λ x. get_or x k 0) e ∙ get_or_append_left kept ((count + 1) ∷ []) 0 k m in
      omega (arith, b, s)
  below k l (inr m) =
      let n = length-append kept ((count + 1) ∷ []) in
      let i : k ≡ length kept = omega (arith, l, m, n) in
      let s : get_or more k 0 ≡ count + 1 = ap (λ x. get_or x k 0) e ∙ ap (λ n. get_or (kept ++ (count + 1) ∷ []) n 0) i ∙ get_or-append_seam kept (count + 1) [] 0 in
      omega (arith, s)
