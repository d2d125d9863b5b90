-- Pieces by their first characters.
use Rattle.std.proofs.Common.{◌≡◌, ℕ, ◌≤◌, Bool, true, false, ◌||◌, List, [], ◌∷◌, Option, Some, None, if◌then◌else◌, refl, sym, ap, ◌∙◌, arith}
use Rattle.std.specs.Prelude.{drop}
use Rattle.std.proofs.lemmas.Bool.Decides.{nat_tests}
use Rattle.source_text.specs.Source.{IsPlace}
use Rattle.tokens.specs.Alphabet.{one_of, begins_with, is_decimal_digit, is_non_zero_digit}
use Rattle.tokens.specs.Reading.{behind}
use Rattle.tokens.specs.Scanned.{Passed, IsRun}
use Rattle.tokens.proofs.PassedCharacters.{passed_none}
use Rattle.regular_expressions.specs.Characters.{escape}
use Rattle.regular_expressions.specs.Classes.{class}
use Rattle.regular_expressions.specs.Names.{group_name}
use Rattle.regular_expressions.specs.Terms.{bar, closing, assertion, repeating, atom, reference, name_reference, Read, read_as, digits, behind_digits, decimal_value, behind_lazy, counted, opening, name_referred, valued_atom, atom_escape, piece}
use Rattle.regular_expressions.specs.Scanned.{IsRead}
use Rattle.regular_expressions.proofs.Productions.{read_behind, run_word, run_rest}

-- behind `\k`
pub referred : (text : List ℕ) (at more stop : ℕ) (name : List ℕ) → Passed text at more (0x3C ∷ []) → IsRead (group_name (behind text more)) name text more stop →
    IsRead (if begins_with (one_of "<") (behind text at) then name_referred (group_name (drop 1 (behind text at))) else None) (name_reference name) text at stop
referred text at more stop name p h =
    read_behind (if begins_with (one_of "<") (behind text at) then name_referred (group_name (drop 1 (behind text at))) else None) (name_referred (group_name (behind text more)))
    (name_reference name) text at more stop 0x3C p (ap (λ cs. if begins_with (one_of "<") cs then name_referred (group_name (drop 1 cs)) else None) p.split)
    (record { word = h.word; passed = h.passed; found = ap name_referred h.found })

digit_escape : (u : Bool) (c : ℕ) (cs : List ℕ) → 0x31 ≤ c → c ≤ 0x39 →
    atom_escape u (c ∷ cs) ≡ Some (reference (decimal_value 0 (digits (c ∷ cs))), behind_digits (c ∷ cs))
digit_escape u c cs l h =
    ap (λ b. if b then Some (assertion, cs)
    else if is_non_zero_digit c then Some (reference (decimal_value 0 (digits (c ∷ cs))), behind_digits (c ∷ cs))
    else if one_of "k" c then (if begins_with (one_of "<") cs then name_referred (group_name (drop 1 cs)) else None)
    else valued_atom (escape u (c ∷ cs))) (no_assertion c h)
    ∙ ap (λ b. if b then Some (reference (decimal_value 0 (digits (c ∷ cs))), behind_digits (c ∷ cs))
    else if one_of "k" c then (if begins_with (one_of "<") cs then name_referred (group_name (drop 1 cs)) else None)
    else valued_atom (escape u (c ∷ cs))) (a_digit c l h) where
      no_assertion : (c : ℕ) → c ≤ 0x39 → one_of "bB" c ≡ false
      no_assertion c h = grind (arith, nat_tests)

      a_digit : (c : ℕ) → 0x31 ≤ c → c ≤ 0x39 → is_non_zero_digit c ≡ true
      a_digit c l h = grind (arith, nat_tests)

-- DecimalEscape, by its digits
pub digits_referred : (u : Bool) (text part : List ℕ) (at more stop c : ℕ) → Passed text at more (c ∷ []) → 0x31 ≤ c → c ≤ 0x39 → (h : IsRun is_decimal_digit text at stop) → part ≡ h.run.word →
    IsRead (atom_escape u (behind text at)) (reference (decimal_value 0 part)) text at stop
digits_referred u text part at more stop c p l m h s = record {
  word = h.run.word;
  passed = h.run.passed;
  found = ap (atom_escape u) p.split ∙ digit_escape u c (behind text more) l m
      ∙ ap (λ cs. Some (reference (decimal_value 0 (digits cs)), behind_digits cs)) (sym p.split)
      ∙ ap (λ rest. Some (reference (decimal_value 0 (digits (behind text at))), rest)) (run_rest is_decimal_digit text at stop h)
      ∙ ap (λ w. Some (reference (decimal_value 0 w), behind text stop)) (run_word is_decimal_digit text at stop h ∙ sym s);
}

-- another escape is an Atom
pub escape_atom : (u : Bool) (text : List ℕ) (at more stop c : ℕ) (v : Option ℕ) → Passed text at more (c ∷ []) → one_of "bB" c ≡ false → is_non_zero_digit c ≡ false → one_of "k" c ≡ false →
    IsRead (escape u (c ∷ behind text more)) v text more stop → IsRead (atom_escape u (behind text at)) atom text at stop
escape_atom u text at more stop c v p a b d h =
    let cs = behind text more in
    read_behind (atom_escape u (behind text at)) (valued_atom (escape u (c ∷ cs))) atom text at more stop c p
    (ap (atom_escape u) p.split
    ∙ ap (λ x. if x then Some (assertion, cs)
    else if is_non_zero_digit c then Some (reference (decimal_value 0 (digits (c ∷ cs))), behind_digits (c ∷ cs))
    else if one_of "k" c then (if begins_with (one_of "<") cs then name_referred (group_name (drop 1 cs)) else None)
    else valued_atom (escape u (c ∷ cs))) a
    ∙ ap (λ x. if x then Some (reference (decimal_value 0 (digits (c ∷ cs))), behind_digits (c ∷ cs))
    else if one_of "k" c then (if begins_with (one_of "<") cs then name_referred (group_name (drop 1 cs)) else None)
    else valued_atom (escape u (c ∷ cs))) b
    ∙ ap (λ x. if x then (if begins_with (one_of "<") cs then name_referred (group_name (drop 1 cs)) else None) else valued_atom (escape u (c ∷ cs))) d)
    (record { word = h.word; passed = h.passed; found = ap valued_atom h.found })

-- a character that stands for itself
abbrev pub is_special : ℕ → Bool
is_special c = one_of "|" c || one_of ")" c || one_of "^$" c || one_of "(" c || one_of "*+?" c || one_of "{" c || one_of "[" c || one_of "\\" c || one_of "]}" c

plain_by : (a b d e f g h i j : Bool) (r0 r1 r2 r3 r4 r5 r6 r7 r9 : Option Read) → (a || b || d || e || f || g || h || i || j) ≡ false →
    (if a then r0 else if b then r1 else if d then r2 else if e then r3 else if f then r4 else if g then r5 else if h then r6 else if i then r7 else if j then None else r9) ≡ r9
plain_by false false false false false false false false false r0 r1 r2 r3 r4 r5 r6 r7 r9 t = refl
plain_by true b d e f g h i j r0 r1 r2 r3 r4 r5 r6 r7 r9 t = cc
plain_by false true d e f g h i j r0 r1 r2 r3 r4 r5 r6 r7 r9 t = cc
plain_by false false true e f g h i j r0 r1 r2 r3 r4 r5 r6 r7 r9 t = cc
plain_by false false false true f g h i j r0 r1 r2 r3 r4 r5 r6 r7 r9 t = cc
plain_by false false false false true g h i j r0 r1 r2 r3 r4 r5 r6 r7 r9 t = cc
plain_by false false false false false true h i j r0 r1 r2 r3 r4 r5 r6 r7 r9 t = cc
plain_by false false false false false false true i j r0 r1 r2 r3 r4 r5 r6 r7 r9 t = cc
plain_by false false false false false false false true j r0 r1 r2 r3 r4 r5 r6 r7 r9 t = cc
plain_by false false false false false false false false true r0 r1 r2 r3 r4 r5 r6 r7 r9 t = cc

pub plain_read : (u : Bool) (text : List ℕ) (at c : ℕ) → IsPlace text at → is_special c ≡ false → IsRead (piece u c (behind text at)) atom text at at
plain_read u text at c p e =
    let cs = behind text at in
    record {
      word = [];
      passed = passed_none text at p;
      found = plain_by (one_of "|" c) (one_of ")" c) (one_of "^$" c) (one_of "(" c) (one_of "*+?" c) (one_of "{" c) (one_of "[" c) (one_of "\\" c) (one_of "]}" c)
          (Some (bar, cs)) (Some (closing, cs)) (Some (assertion, cs)) (opening cs) (Some (repeating, behind_lazy cs)) (read_as repeating (counted cs)) (read_as atom (class u cs)) (atom_escape u cs)
          (Some (atom, cs)) e;
    }
