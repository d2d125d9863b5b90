-- A pattern's classes, step by step.
use Rattle.std.proofs.Common.{◌≡◌, ℕ, ◌+◌, ◌-◌, ◌/◌, ◌%◌, ◌≤◌, nat_lt, cond, Bool, true, false, List, [], ◌∷◌, ◌++◌, length, Option, Some, None, refl, sym, ap, ◌∙◌, arith}
use Rattle.std.specs.Str.{chars}
use Rattle.std.proofs.lemmas.Bool.Decides.{nat_tests}
use Rattle.source_text.specs.Source.{IsPlace}
use Rattle.tokens.specs.Reading.{behind}
use Rattle.tokens.specs.Scanned.{Passed}
use Rattle.tokens.proofs.PassedCharacters.{passed_none}
use Rattle.regular_expressions.specs.Classes.{class_atom, read_of}
use Rattle.regular_expressions.specs.Scanned.{IsRead as IsReadAtom}
use Rattle.regular_expressions.proofs.Productions.{read_length}
use Rattle.pattern_analysis.specs.declared.class_values.Standing.{Standing}
use Rattle.pattern_analysis.specs.declared.class_values.Standing.TheVariants.{Outside}
use Rattle.pattern_analysis.specs.declared.class_values.Seen.{Seen}
use Rattle.pattern_analysis.specs.declared.class_values.Seen.TheVariants.{Apart}
use Rattle.pattern_analysis.specs.ClassValues.{behind_atom, atom_values, each_some, characters, values_from, class_values}
use Rattle.pattern_analysis.specs.Misleading.{misleads}
use Rattle.pattern_analysis.specs.Read.{values_of, IsRead, IsAtomRead}

-- ---- what is passed over

pub values_skip : (u : Bool) (standing : Standing) (word rest : List ℕ) → values_from u standing (length word) (word ++ rest) ≡ values_from u standing 0 rest
values_skip u standing [] rest = refl
values_skip u standing (c ∷ word) rest = values_skip u standing word rest

-- ---- an atom of a class

pub atom_read : (u : Bool) (standing : Standing) (c : ℕ) (value : Option ℕ) (seen : Seen) (text : List ℕ) (at stop : ℕ) → IsReadAtom (class_atom u c (behind text at)) value text at stop →
    values_of u seen ≡ atom_values u (Some (value, behind text stop)) → IsAtomRead u standing c seen (behind_atom standing) text at stop
atom_read u standing c value seen text at stop h e = record {
  word = h.word;
  passed = h.passed;
  goes_on =
      ap (λ o. atom_values u o ++ values_from u (behind_atom standing) (read_of (behind text at) o) (behind text at)) h.found
      ∙ ap (λ vs. vs ++ values_from u (behind_atom standing) (length (behind text at) - length (behind text stop)) (behind text at)) (sym e)
      ∙ ap (λ k. values_of u seen ++ values_from u (behind_atom standing) k (behind text at)) (read_length text at stop h.word h.passed)
      ∙ ap (λ cs. values_of u seen ++ values_from u (behind_atom standing) (length h.word) cs) h.passed.split
      ∙ ap (λ vs. values_of u seen ++ vs) (values_skip u (behind_atom standing) h.word (behind text stop));
}

pub no_atom : (u : Bool) (standing : Standing) (c : ℕ) (text : List ℕ) (at : ℕ) → IsPlace text at → class_atom u c (behind text at) ≡ None →
    IsAtomRead u standing c Apart (behind_atom standing) text at at
no_atom u standing c text at p e = record {
  word = [];
  passed = passed_none text at p;
  goes_on = ap (λ o. atom_values u o ++ values_from u (behind_atom standing) (read_of (behind text at) o) (behind text at)) e;
}

-- ---- what stands side by side

-- up to a place, with the last two before it
pub record InClasses (u : Bool) (text : List ℕ) (at : ℕ) (standing : Standing) (before last : Option ℕ) : Type 0 where
  pub place : IsPlace text at
  pub same : misleads None None (class_values u (chars text)) ≡ misleads before last (values_from u standing 0 (behind text at))

pub classes_begin : (u : Bool) (text : List ℕ) → IsPlace text 0 → InClasses u text 0 Outside None None
classes_begin u text p = record { place = p; same = refl }

stands_next : (u : Bool) (text : List ℕ) (at more stop c : ℕ) (standing next : Standing) (before last : Option ℕ) (seen : Seen) → InClasses u text at standing before last → Passed text at more (c ∷ []) →
    IsRead u standing c seen next text more stop →
    misleads None None (class_values u (chars text)) ≡ misleads before last (values_of u seen ++ values_from u next 0 (behind text stop))
stands_next u text at more stop c standing next before last seen h p r =
    h.same ∙ ap (λ cs. misleads before last (values_from u standing 0 cs)) p.split ∙ ap (λ vs. misleads before last vs) r.goes_on

pub classes_go_on : (u : Bool) (text : List ℕ) (at more stop c : ℕ) (standing next : Standing) (before last one two : Option ℕ) (seen : Seen) → InClasses u text at standing before last →
    Passed text at more (c ∷ []) → IsRead u standing c seen next text more stop →
    ((rest : List (Option ℕ)) → misleads before last (values_of u seen ++ rest) ≡ misleads one two rest) → InClasses u text stop next one two
classes_go_on u text at more stop c standing next before last one two seen h p r e = record {
  place = r.passed.place;
  same = stands_next u text at more stop c standing next before last seen h p r ∙ e (values_from u next 0 (behind text stop));
}

pub classes_mislead : (u : Bool) (text : List ℕ) (at more stop c : ℕ) (standing next : Standing) (before last : Option ℕ) (seen : Seen) → InClasses u text at standing before last →
    Passed text at more (c ∷ []) → IsRead u standing c seen next text more stop →
    ((rest : List (Option ℕ)) → misleads before last (values_of u seen ++ rest) ≡ true) → misleads None None (class_values u (chars text)) ≡ true
classes_mislead u text at more stop c standing next before last seen h p r e =
    stands_next u text at more stop c standing next before last seen h p r ∙ e (values_from u next 0 (behind text stop))

pub classes_end : (u : Bool) (text : List ℕ) (at : ℕ) (standing : Standing) (before last : Option ℕ) → InClasses u text at standing before last → behind text at ≡ [] →
    misleads None None (class_values u (chars text)) ≡ false
classes_end u text at standing before last h e = h.same ∙ ap (λ cs. misleads before last (values_from u standing 0 cs)) e

-- ---- a character of two units

abbrev pub lead_of : ℕ → ℕ
lead_of v = 0xD800 + (v - 0x10000) / 0x400

abbrev pub trail_of : ℕ → ℕ
trail_of v = 0xDC00 + (v - 0x10000) % 0x400

two_units : (u : Bool) (v : ℕ) → u ≡ false → 0x10000 ≤ v → characters u v ≡ Some (lead_of v) ∷ Some (trail_of v) ∷ []
two_units true v e n = absurd (true_is_false e) where
  true_is_false : true ≡ false → ⊥
  true_is_false e = cc
two_units false v e n = ap (λ b. each_some (cond b (v ∷ []) (lead_of v ∷ trail_of v ∷ []))) (far v n) where
  far : (v : ℕ) → 0x10000 ≤ v → nat_lt v 0x10000 ≡ false
  far v n = grind (arith, nat_tests)

module _ (u : Bool) (v : ℕ) (before last : Option ℕ) (e : u ≡ false) (n : 0x10000 ≤ v) where
  units_next : (rest : List (Option ℕ)) → misleads before last (characters u v ++ rest) ≡ misleads before last (Some (lead_of v) ∷ Some (trail_of v) ∷ rest)
  units_next rest = ap (λ vs. misleads before last (vs ++ rest)) (two_units u v e n)

  pub lead_misleads : ((rest : List (Option ℕ)) → misleads before last (Some (lead_of v) ∷ rest) ≡ true) → (rest : List (Option ℕ)) → misleads before last (characters u v ++ rest) ≡ true
  lead_misleads h rest = units_next rest ∙ h (Some (trail_of v) ∷ rest)

  pub trail_misleads : (one two : Option ℕ) → ((rest : List (Option ℕ)) → misleads before last (Some (lead_of v) ∷ rest) ≡ misleads one two rest) →
      ((rest : List (Option ℕ)) → misleads one two (Some (trail_of v) ∷ rest) ≡ true) → (rest : List (Option ℕ)) → misleads before last (characters u v ++ rest) ≡ true
  trail_misleads one two h k rest = units_next rest ∙ h (Some (trail_of v) ∷ rest) ∙ k rest

  pub units_stand : (one two three four : Option ℕ) → ((rest : List (Option ℕ)) → misleads before last (Some (lead_of v) ∷ rest) ≡ misleads one two rest) →
      ((rest : List (Option ℕ)) → misleads one two (Some (trail_of v) ∷ rest) ≡ misleads three four rest) →
      (rest : List (Option ℕ)) → misleads before last (characters u v ++ rest) ≡ misleads three four rest
  units_stand one two three four h k rest = units_next rest ∙ h (Some (trail_of v) ∷ rest) ∙ k rest
