-- CharacterClass, atom by atom.
use Rattle.std.proofs.Common.{◌≡◌, ℕ, ◌-◌, Bool, true, false, ◌&&◌, List, [], ◌∷◌, ◌++◌, length, Option, Some, None, if◌then◌else◌, refl, ap, ◌∙◌, arith}
use Rattle.std.proofs.lemmas.Bool.Decides.{nat_tests}
use Rattle.source_text.specs.Source.{IsPlace}
use Rattle.tokens.specs.Alphabet.{one_of}
use Rattle.tokens.specs.Reading.{behind}
use Rattle.tokens.specs.Scanned.{Passed}
use Rattle.tokens.proofs.PassedCharacters.{passed_none, passed_on}
use Rattle.regular_expressions.specs.Characters.{escape}
use Rattle.regular_expressions.specs.Classes.{Ranges, fresh, next_dash, class_escape, class_atom, next_atom, read_of, class_behind}
use Rattle.regular_expressions.specs.Scanned.{IsRead, IsPassed, IsStep}
use Rattle.regular_expressions.proofs.Productions.{read_length}

-- what was read is passed over
pub class_skip : (u : Bool) (ranges : Ranges) (word rest : List ℕ) → class_behind u (Some ranges) (length word) (word ++ rest) ≡ class_behind u (Some ranges) 0 rest
class_skip u ranges [] rest = refl
class_skip u ranges (c ∷ word) rest = class_skip u ranges word rest

-- ranges behind a place
pub record InClass (u : Bool) (text : List ℕ) (at : ℕ) (ranges : Ranges) (stop : ℕ) : Type 0 where
  pub word : List ℕ
  pub passed : Passed text at stop word
  pub same : class_behind u (Some fresh) 0 (behind text at) ≡ class_behind u (Some ranges) 0 (behind text stop)

pub class_begins : (u : Bool) (text : List ℕ) (at : ℕ) → IsPlace text at → InClass u text at fresh at
class_begins u text at p = record { word = []; passed = passed_none text at p; same = refl }

pub class_goes_on : (u : Bool) (text : List ℕ) (at stop more end c : ℕ) (ranges next : Ranges) → InClass u text at ranges stop → Passed text stop more (c ∷ []) →
    IsStep u ranges c next text more end → InClass u text at next end
class_goes_on u text at stop more end c ranges next h p s = record {
  word = h.word ++ (c ∷ s.word);
  passed = passed_on text at stop end h.word (c ∷ s.word) h.passed (passed_on text stop more end (c ∷ []) s.word p s.passed);
  same = h.same ∙ ap (λ cs. class_behind u (Some ranges) 0 cs) p.split ∙ s.goes_on;
}

pub class_closes : (u : Bool) (text : List ℕ) (at stop more : ℕ) (ranges : Ranges) → InClass u text at ranges stop → Passed text stop more (0x5D ∷ []) →
    IsPassed (class_behind u (Some fresh) 0 (behind text at)) text at more
class_closes u text at stop more ranges h p = record {
  word = h.word ++ (0x5D ∷ []);
  passed = passed_on text at stop more h.word (0x5D ∷ []) h.passed p;
  found = h.same ∙ ap (λ cs. class_behind u (Some ranges) 0 cs) p.split;
}

pub class_stops : (u : Bool) (text : List ℕ) (at stop more c : ℕ) (ranges : Ranges) → InClass u text at ranges stop → Passed text stop more (c ∷ []) →
    class_behind u (Some ranges) 0 (c ∷ behind text more) ≡ None → class_behind u (Some fresh) 0 (behind text at) ≡ None
class_stops u text at stop more c ranges h p e = h.same ∙ ap (λ cs. class_behind u (Some ranges) 0 cs) p.split ∙ e

pub class_ends : (u : Bool) (text : List ℕ) (at stop : ℕ) (ranges : Ranges) → InClass u text at ranges stop → behind text stop ≡ [] → class_behind u (Some fresh) 0 (behind text at) ≡ None
class_ends u text at stop ranges h e = h.same ∙ ap (λ cs. class_behind u (Some ranges) 0 cs) e

-- ---- one atom

no_close : (c : ℕ) → ¬ (c ≡ 0x5D) → one_of "]" c ≡ false
no_close c n = grind (arith, nat_tests)

pub no_dash : (c : ℕ) → ¬ (c ≡ 0x2D) → one_of "-" c ≡ false
no_dash c n = grind (arith, nat_tests)

pub and_false : (a b : Bool) → b ≡ false → (a && b) ≡ false
and_false true b e = e
and_false false b e = refl

pub class_escape_other : (u : Bool) (c : ℕ) (cs : List ℕ) → ¬ (c ≡ 0x62) → (u && one_of "-" c) ≡ false → class_escape u (c ∷ cs) ≡ escape u (c ∷ cs)
class_escape_other u c cs n e =
    ap (λ b. if b then Some (Some 0x8, cs) else if u && one_of "-" c then Some (Some 0x2D, cs) else escape u (c ∷ cs)) (no_b c n)
    ∙ ap (λ b. if b then Some (Some 0x2D, cs) else escape u (c ∷ cs)) e where
      no_b : (c : ℕ) → ¬ (c ≡ 0x62) → one_of "b" c ≡ false
      no_b c n = grind (arith, nat_tests)

abbrev by_tests : Bool → Bool → List ℕ → Option (List ℕ) → Option (List ℕ) → Option (List ℕ)
by_tests a b rest dash atom = if a then Some rest else if b then dash else atom

no_tests : (a b : Bool) (rest : List ℕ) (dash atom : Option (List ℕ)) → a ≡ false → b ≡ false → by_tests a b rest dash atom ≡ atom
no_tests true b rest dash atom e f = absurd (true_is_false e) where
  true_is_false : true ≡ false → ⊥
  true_is_false e = cc
no_tests false true rest dash atom e f = absurd (true_is_false f) where
  true_is_false : true ≡ false → ⊥
  true_is_false e = cc
no_tests false false rest dash atom e f = refl

-- a character that is neither `]` nor `-` begins an atom
pub atom_next : (u : Bool) (ranges : Ranges) (c : ℕ) (cs : List ℕ) → ¬ (c ≡ 0x5D) → ¬ (c ≡ 0x2D) →
    class_behind u (Some ranges) 0 (c ∷ cs) ≡ class_behind u (next_atom u ranges (class_atom u c cs)) (read_of cs (class_atom u c cs)) cs
atom_next u ranges c cs n m =
    no_tests (one_of "]" c) (one_of "-" c) cs (class_behind u (next_dash ranges) 0 cs) (class_behind u (next_atom u ranges (class_atom u c cs)) (read_of cs (class_atom u c cs)) cs) (no_close c n) (no_dash c m)

pub atom_steps : (u : Bool) (ranges next : Ranges) (c : ℕ) (value : Option ℕ) (text : List ℕ) (at stop : ℕ) → ¬ (c ≡ 0x5D) → ¬ (c ≡ 0x2D) →
    IsRead (class_atom u c (behind text at)) value text at stop → next_atom u ranges (Some (value, behind text stop)) ≡ Some next → IsStep u ranges c next text at stop
atom_steps u ranges next c value text at stop n m h e = record {
  word = h.word;
  passed = h.passed;
  goes_on =
      atom_next u ranges c (behind text at) n m
      ∙ ap (λ o. class_behind u (next_atom u ranges o) (read_of (behind text at) o) (behind text at)) h.found
      ∙ ap (λ o. class_behind u o (length (behind text at) - length (behind text stop)) (behind text at)) e
      ∙ ap (λ k. class_behind u (Some next) k (behind text at)) (read_length text at stop h.word h.passed)
      ∙ ap (λ cs. class_behind u (Some next) (length h.word) cs) h.passed.split
      ∙ class_skip u next h.word (behind text stop);
}
