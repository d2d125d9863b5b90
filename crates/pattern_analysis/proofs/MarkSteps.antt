-- A pattern, mark by mark.
use Rattle.std.proofs.Common.{◌≡◌, ℕ, ◌+◌, ◌<◌, ◌≤◌, Bool, true, false, List, [], ◌∷◌, ◌++◌, length, if◌then◌else◌, Bor, refl, sym, ap, ◌∙◌, arith}
use Rattle.std.specs.Str.{chars}
use Rattle.std.proofs.Math.Dec.{eqb}
use Rattle.std.proofs.lemmas.Bool.Decides.{nat_tests}
use Rattle.source_text.specs.Source.{IsPlace}
use Rattle.tokens.specs.Alphabet.{one_of, is_decimal_digit}
use Rattle.tokens.specs.Reading.{behind}
use Rattle.tokens.specs.Scanned.{Passed, IsRun}
use Rattle.tokens.proofs.PassedCharacters.{passed_none, passed_ordered}
use Rattle.regular_expressions.specs.Terms.{decimal_value, digits}
use Rattle.regular_expressions.proofs.Productions.{run_word}
use Rattle.pattern_analysis.specs.declared.marks.Mark.{Mark as ReaderMark}
use Rattle.pattern_analysis.specs.declared.marks.Mark.TheVariants.{Nothing, Opening, Closing, Bar, Reference}
use Rattle.pattern_analysis.specs.declared.opening.Opening.TheVariants.{Capturing, Grouping, Lookahead, Lookbehind}
use Rattle.pattern_analysis.specs.Marks.{Mark, opening, closing, bar, reference, is_reference, escape_marks, escape_length, character_marks, marks_from, marks_of}
use Rattle.pattern_analysis.specs.UselessReferences.{group_count}
use Rattle.pattern_analysis.specs.ReadReferences.{marks_as, IsEscapeRead, IsMarkRead}

-- ---- what is passed over

marks_skip : (in_class : Bool) (word rest : List ℕ) → marks_from in_class (length word) (word ++ rest) ≡ marks_from in_class 0 rest
marks_skip in_class [] rest = refl
marks_skip in_class (c ∷ word) rest = marks_skip in_class word rest

-- ---- behind a backslash

reference_on : (text part : List ℕ) (at stop : ℕ) (h : IsRun is_decimal_digit text at stop) → part ≡ h.run.word → is_reference (behind text at) ≡ true →
    escape_marks (behind text at) ++ marks_from false (escape_length (behind text at)) (behind text at) ≡ reference (decimal_value 0 part) ∷ marks_from false 0 (behind text stop)
reference_on text part at stop h s f =
    let cs = behind text at in
    let rest = behind text stop in
    let word = h.run.word in
    ap (λ b. (if b then reference (decimal_value 0 (digits cs)) ∷ [] else []) ++ marks_from false (if b then length (digits cs) else 1) cs) f
    ∙ ap (λ w. reference (decimal_value 0 w) ∷ marks_from false (length w) cs) (run_word is_decimal_digit text at stop h)
    ∙ ap (λ x. reference (decimal_value 0 word) ∷ marks_from false (length word) x) h.run.passed.split
    ∙ ap (λ ms. reference (decimal_value 0 word) ∷ ms) (marks_skip false word rest)
    ∙ ap (λ w. reference (decimal_value 0 w) ∷ marks_from false 0 rest) (sym s)

pub reference_read : (text : List ℕ) (digits : Bor (List ℕ)) (at stop : ℕ) (h : IsRun is_decimal_digit text at stop) → digits.now ≡ h.run.word → is_reference (behind text at) ≡ true →
    IsEscapeRead (Reference digits) false text at stop
reference_read text digits at stop h s f = record { word = h.run.word; passed = h.run.passed; outside = refl; goes_on = reference_on text digits.now at stop h s f }

-- ---- another character

pub no_backslash : (c : ℕ) → ¬ (c ≡ 0x5C) → one_of "\\" c ≡ false
no_backslash c n = grind (arith, nat_tests)

pub is_bracket : (c : ℕ) → eqb c 0x5B ≡ one_of "[" c
is_bracket c = grind (arith, nat_tests)

pub plain_mark : (text : List ℕ) (at c : ℕ) (mark : ReaderMark) (next : Bool) → IsPlace text at → one_of "\\" c ≡ false → marks_as mark ≡ character_marks c (behind text at) →
    next ≡ one_of "[" c → IsMarkRead false c mark next text at at
plain_mark text at c mark next p n e f = record {
  word = [];
  passed = passed_none text at p;
  goes_on =
      ap (λ b. if b then escape_marks (behind text at) ++ marks_from false (escape_length (behind text at)) (behind text at)
      else character_marks c (behind text at) ++ marks_from (one_of "[" c) 0 (behind text at)) n
      ∙ ap (λ ms. ms ++ marks_from (one_of "[" c) 0 (behind text at)) (sym e)
      ∙ ap (λ b. marks_as mark ++ marks_from b 0 (behind text at)) (sym f);
}

-- ---- up to a place

pub record InMarks (text : List ℕ) (at : ℕ) (in_class : Bool) (count : ℕ) : Type 0 where
  pub place : IsPlace text at
  pub few : count ≤ at
  pub same : group_count (marks_of (chars text)) ≡ count + group_count (marks_from in_class 0 (behind text at))

group_count_more : (xs ys : List Mark) → group_count (xs ++ ys) ≡ group_count xs + group_count ys
group_count_more [] ys = omega arith
group_count_more (opening Capturing ∷ xs) ys = let e = group_count_more xs ys in omega (arith, e)
group_count_more (opening Grouping ∷ xs) ys = group_count_more xs ys
group_count_more (opening (Lookahead b) ∷ xs) ys = group_count_more xs ys
group_count_more (opening (Lookbehind b) ∷ xs) ys = group_count_more xs ys
group_count_more (closing ∷ xs) ys = group_count_more xs ys
group_count_more (bar ∷ xs) ys = group_count_more xs ys
group_count_more (reference n ∷ xs) ys = group_count_more xs ys

one_group : (mark : ReaderMark) → group_count (marks_as mark) ≤ 1
one_group Nothing = omega arith
one_group (Opening Capturing) = omega arith
one_group (Opening Grouping) = omega arith
one_group (Opening (Lookahead b)) = omega arith
one_group (Opening (Lookbehind b)) = omega arith
one_group Closing = omega arith
one_group Bar = omega arith
one_group (Reference digits) = omega arith

pub marks_begin : (text : List ℕ) → IsPlace text 0 → InMarks text 0 false 0
marks_begin text p = record { place = p; few = omega arith; same = sym (none_more (group_count (marks_of (chars text)))) } where
  none_more : (n : ℕ) → 0 + n ≡ n
  none_more n = omega arith

pub marks_next : (text : List ℕ) (at more stop c : ℕ) (in_class next : Bool) (mark : ReaderMark) → Passed text at more (c ∷ []) → IsMarkRead in_class c mark next text more stop →
    marks_from in_class 0 (behind text at) ≡ marks_as mark ++ marks_from next 0 (behind text stop)
marks_next text at more stop c in_class next mark p r = ap (marks_from in_class 0) p.split ∙ r.goes_on

pub marks_go_on : (text : List ℕ) (at more stop c count more_groups : ℕ) (in_class next : Bool) (mark : ReaderMark) → InMarks text at in_class count → at < more → Passed text at more (c ∷ []) →
    IsMarkRead in_class c mark next text more stop → more_groups ≡ group_count (marks_as mark) → InMarks text stop next (count + more_groups)
marks_go_on text at more stop c count more_groups in_class next mark h l p r e = record {
  place = r.passed.place;
  few = let a = one_group mark in let b = passed_ordered text more stop r.word r.passed in let d = h.few in omega (arith, a, b, d, e, l);
  same = h.same ∙ ap (λ ms. count + group_count ms) (marks_next text at more stop c in_class next mark p r)
      ∙ ap (λ n. count + n) (group_count_more (marks_as mark) (marks_from next 0 (behind text stop)))
      ∙ ap (λ n. count + (n + group_count (marks_from next 0 (behind text stop)))) (sym e)
      ∙ add count more_groups (group_count (marks_from next 0 (behind text stop)));
} where
  add : (a b c : ℕ) → a + (b + c) ≡ a + b + c
  add a b c = omega arith

pub marks_end : (text : List ℕ) (at count : ℕ) (in_class : Bool) → InMarks text at in_class count → behind text at ≡ [] → count ≡ group_count (marks_of (chars text))
marks_end text at count in_class h e = let s = h.same ∙ ap (λ cs. count + group_count (marks_from in_class 0 cs)) e in omega (arith, s)
