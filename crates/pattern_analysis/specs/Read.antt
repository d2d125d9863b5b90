-- What the program's own calls say of a pattern's text.
use Rattle.std.specs.Prelude.{◌≡◌, ℕ, Bool, List, [], ◌∷◌, ◌++◌, Option, None}
use Rattle.tokens.specs.Reading.{behind}
use Rattle.tokens.specs.Scanned.{Passed}
use Rattle.regular_expressions.specs.Classes.{class_atom, read_of}
use Rattle.pattern_analysis.specs.declared.class_values.Standing.{Standing}
use Rattle.pattern_analysis.specs.declared.class_values.Seen.{Seen}
use Rattle.pattern_analysis.specs.declared.class_values.Seen.TheVariants.{Nothing, Apart, Character}
use Rattle.pattern_analysis.specs.ClassValues.{atom_values, behind_atom, characters, values_from}

abbrev pub values_of : Bool → Seen → List (Option ℕ)
values_of u Nothing = []
values_of u Apart = None ∷ []
values_of u (Character v) = characters u v

-- so many characters are passed over from a place on
pub record IsSkipped (count : ℕ) (text : List ℕ) (at stop : ℕ) : Type 0 where
  pub word : List ℕ
  pub passed : Passed text at stop word
  pub same : (u : Bool) (standing : Standing) → values_from u standing count (behind text at) ≡ values_from u standing 0 (behind text stop)

-- what is read, by a character before a place, and what stands behind
pub record IsRead (u : Bool) (standing : Standing) (c : ℕ) (seen : Seen) (next : Standing) (text : List ℕ) (at stop : ℕ) : Type 0 where
  pub word : List ℕ
  pub passed : Passed text at stop word
  pub goes_on : values_from u standing 0 (c ∷ behind text at) ≡ values_of u seen ++ values_from u next 0 (behind text stop)

-- the same of an atom of a class
pub record IsAtomRead (u : Bool) (standing : Standing) (c : ℕ) (seen : Seen) (next : Standing) (text : List ℕ) (at stop : ℕ) : Type 0 where
  pub word : List ℕ
  pub passed : Passed text at stop word
  pub goes_on :
      atom_values u (class_atom u c (behind text at)) ++ values_from u (behind_atom standing) (read_of (behind text at) (class_atom u c (behind text at))) (behind text at)
      ≡ values_of u seen ++ values_from u next 0 (behind text stop)
