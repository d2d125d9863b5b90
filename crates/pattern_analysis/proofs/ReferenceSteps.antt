-- A pattern's references, mark by mark.
use Rattle.std.proofs.Common.{◌≡◌, ℕ, ◌+◌, ◌<◌, ◌≤◌, Bool, true, false, not, List, [], ◌∷◌, ◌++◌, reverse, Some, None, if◌then◌else◌, nat_lt, nat_le, refl, sym, ap, ◌∙◌, arith}
use Rattle.std.specs.Str.{chars}
use Rattle.std.proofs.lemmas.Bool.Decides.{nat_tests}
use Rattle.std.proofs.lemmas.List.Sorted.{IsNonDecreasingBy-short}
use Rattle.source_text.specs.Source.{IsPlace}
use Rattle.tokens.specs.Reading.{behind}
use Rattle.tokens.specs.Scanned.{Passed}
use Rattle.tokens.proofs.PassedCharacters.{passed_ordered}
use Rattle.pattern_analysis.specs.declared.frame.Frame.{Frame}
use Rattle.pattern_analysis.specs.declared.marks.Mark.{Mark as ReaderMark}
use Rattle.pattern_analysis.specs.declared.reached.Reached.{Reached as ReaderReached}
use Rattle.pattern_analysis.specs.Marks.{Mark, marks_from, marks_of}
use Rattle.pattern_analysis.specs.UselessReferences.{Reached, outermost, begin, holding, is_missed, awaiting, referred, misses}
use Rattle.pattern_analysis.specs.ReadReferences.{marks_as, reached_as, IsInOrder, IsMarkRead}
use Rattle.pattern_analysis.proofs.MarkSteps.{marks_next}

-- up to a place
pub record InReferences (groups : ℕ) (text : List ℕ) (at : ℕ) (in_class : Bool) (z : ReaderReached) (around : List Frame) (kept : List ℕ) : Type 0 where
  pub place : IsPlace text at
  pub few : z.count ≤ at
  pub order : IsInOrder z.frame z.count around kept
  pub same : misses groups (Some begin) (marks_of (chars text)) ≡ misses groups (Some (reached_as z (reverse around) kept)) (marks_from in_class 0 (behind text at))

pub references_begin : (groups : ℕ) (text : List ℕ) (z : ReaderReached) → IsPlace text 0 → reached_as z [] [] ≡ begin → InReferences groups text 0 false z [] []
references_begin groups text z p e =
    let first : z.frame.first ≡ 0 = ap (λ r. r.frame.first) e in
    let count : z.count ≡ 0 = ap (λ r. r.count) e in
    record {
      place = p;
      few = omega (arith, count);
      order = record {
        nested = IsNonDecreasingBy-short (λ f. f.first) (z.frame ∷ []) (omega arith);
        begun = omega (arith, first, count);
        rising = IsNonDecreasingBy-short (λ x. x) [] (omega arith);
        below = λ k l. absurd (omega (arith, l));
      };
      same = ap (λ r. misses groups (Some r) (marks_of (chars text))) (sym e);
    }

module _ (groups : ℕ) (text : List ℕ) (at more stop c : ℕ) (in_class next : Bool) (mark : ReaderMark) (z : ReaderReached) (around : List Frame) (kept : List ℕ) where
  references_next : InReferences groups text at in_class z around kept → Passed text at more (c ∷ []) → IsMarkRead in_class c mark next text more stop →
      misses groups (Some begin) (marks_of (chars text)) ≡ misses groups (Some (reached_as z (reverse around) kept)) (marks_as mark ++ marks_from next 0 (behind text stop))
  references_next h p r = h.same ∙ ap (misses groups (Some (reached_as z (reverse around) kept))) (marks_next text at more stop c in_class next mark p r)

  pub references_go_on : (w : ReaderReached) (others : List Frame) (left : List ℕ) → InReferences groups text at in_class z around kept → at < more → Passed text at more (c ∷ []) →
      IsMarkRead in_class c mark next text more stop →
      ((marks : List Mark) → misses groups (Some (reached_as z (reverse around) kept)) (marks_as mark ++ marks) ≡ misses groups (Some (reached_as w (reverse others) left)) marks) →
      IsInOrder w.frame w.count others left → w.count ≤ z.count + 1 → InReferences groups text stop next w others left
  references_go_on w others left h l p r e o n = record {
    place = r.passed.place;
    few = let a = h.few in let b = passed_ordered text more stop r.word r.passed in omega (arith, a, b, l, n);
    order = o;
    same = references_next h p r ∙ e (marks_from next 0 (behind text stop));
  }

-- ---- a reference

module _ (groups n value : ℕ) (z : Reached) (e : n ≡ value) (few : n ≤ groups) where
  of_a_group : referred groups z value ≡ (if nat_le n z.count then (if is_missed n (holding n outermost (z.frame ∷ z.around)) z.kept then None else Some z) else if z.frame.in_lookbehind then Some (awaiting z n) else None)
  of_a_group =
      ap (referred groups z) (sym e)
      ∙ ap (λ b. if b then Some z else if nat_le n z.count then (if is_missed n (holding n outermost (z.frame ∷ z.around)) z.kept then None else Some z)
      else if z.frame.in_lookbehind then Some (awaiting z n) else None) (no_more groups n few) where
        no_more : (a b : ℕ) → b ≤ a → nat_lt a b ≡ false
        no_more a b l = grind (arith, nat_tests)

  that_began : n ≤ z.count → referred groups z value ≡ (if is_missed n (holding n outermost (z.frame ∷ z.around)) z.kept then None else Some z)
  that_began l =
      of_a_group
      ∙ ap (λ b. if b then (if is_missed n (holding n outermost (z.frame ∷ z.around)) z.kept then None else Some z) else if z.frame.in_lookbehind then Some (awaiting z n) else None)
      (is_up n z.count l) where
        is_up : (a b : ℕ) → a ≤ b → nat_le a b ≡ true
        is_up a b l = grind (arith, nat_tests)

  pub reference_misses : n ≤ z.count → is_missed n (holding n outermost (z.frame ∷ z.around)) z.kept ≡ true → referred groups z value ≡ None
  reference_misses l m = that_began l ∙ ap (λ b. if b then None else Some z) m

  pub reference_holds : n ≤ z.count → is_missed n (holding n outermost (z.frame ∷ z.around)) z.kept ≡ false → referred groups z value ≡ Some z
  reference_holds l m = that_began l ∙ ap (λ b. if b then None else Some z) m

  pub reference_waits : z.count < n → not z.frame.in_lookbehind ≡ false → referred groups z value ≡ Some (awaiting z n)
  reference_waits l m =
      of_a_group
      ∙ ap (λ b. if b then (if is_missed n (holding n outermost (z.frame ∷ z.around)) z.kept then None else Some z) else if z.frame.in_lookbehind then Some (awaiting z n) else None)
      (is_behind n z.count l)
      ∙ ap (λ b. if b then Some (awaiting z n) else None) (is_true z.frame.in_lookbehind m) where
        is_true : (b : Bool) → not b ≡ false → b ≡ true
        is_true true m = refl
        is_true false m = cc

        is_behind : (a b : ℕ) → b < a → nat_le a b ≡ false
        is_behind a b l = grind (arith, nat_tests)
