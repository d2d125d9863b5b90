-- Steps of the comparison of a text with another and its edits.
use Rattle.std.proofs.Common.{◌≡◌, ◌+◌, ◌≤◌, ℕ, List, [], ◌∷◌, ◌++◌, length, drop, take, ◌-◌, sym, ap, ◌∙◌, subst, arith}
use Rattle.std.specs.Prelude.{slice_range}
use Rattle.std.proofs.lemmas.List.{take-append-drop, drop-drop, take_all, length-drop}
use Rattle.mending.specs.declared.splice.Edit.{Edit}
use Rattle.mending.specs.Splices.{spliced_from, AreInOrder, IsSpliced}

-- what is left of the next text is what the edits that are left make of the rest; then all is
pub record IsLeft (text : List ℕ) (edits : List Edit) (next : List ℕ) (index at to : ℕ) : Type 0 where
  pub bytes : drop to next ≡ spliced_from at text (drop index edits) → next ≡ spliced_from 0 text edits
  pub order : AreInOrder at text (drop index edits) → AreInOrder 0 text edits

pub left_none : (text : List ℕ) (edits : List Edit) (next : List ℕ) (index at to : ℕ) → drop index edits ≡ [] → at ≤ length text → drop to next ≡ drop at text → IsLeft text edits next index at to → IsSpliced text edits next
left_none text edits next index at to none a same left = record {
  order = left.order (subst (AreInOrder at text) (sym none) a);
  bytes = left.bytes (same ∙ ap (spliced_from at text) (sym none));
}

-- bytes that are those from one place to another stand before what is behind
pub bytes_before : (text bytes : List ℕ) (at end : ℕ) → at + length bytes ≡ end → take (end - at) (drop at text) ≡ bytes → drop at text ≡ bytes ++ drop end text
bytes_before text bytes at end e h =
    let count : end - at ≡ length bytes = omega arith in
    sym (take-append-drop (end - at) (drop at text)) ∙ (λ i. h i ++ drop-drop (end - at) at text i) ∙ ap (λ k. bytes ++ drop k text) (let same : at + (end - at) ≡ end = omega arith in same)

-- what is left of two texts is the same
pub rest_same : (text next : List ℕ) (at to : ℕ) → take (length next - to) (drop to next) ≡ take (length text - at) (drop at text) → drop to next ≡ drop at text
rest_same text next at to h =
    sym (take_all (length next - to) (drop to next) (omega (arith, length-drop to next))) ∙ h ∙ take_all (length text - at) (drop at text) (omega (arith, length-drop at text))
