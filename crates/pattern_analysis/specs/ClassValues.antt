-- The characters of the CharacterClasses of a pattern (ECMA-262, 13th edition, 22.2.1), one after the other. A pattern is a list of characters. Of the base
-- profile it need not be derived by that grammar: a backslash that begins no ClassEscape keeps apart what stands before and behind it.
use Rattle.std.specs.Prelude.{ℕ, zero, suc, Bool, true, false, not, ◌&&◌, List, [], ◌∷◌, ◌++◌, Option, Some, None, if◌then◌else◌}
use Rattle.tokens.specs.Alphabet.{one_of, begins_with}
use Rattle.regular_expressions.specs.Characters.{Valued}
use Rattle.regular_expressions.specs.Classes.{class_atom, read_of, units}
use Rattle.pattern_analysis.specs.declared.class_values.Standing.{Standing}
use Rattle.pattern_analysis.specs.declared.class_values.Standing.TheVariants.{Outside, Fresh, Member, Dashed}

-- Where a pattern is read: outside of classes; in one behind its `[` or a range, behind a ClassAtom that may begin a range, or behind its `-`.
abbrev pub behind_atom : Standing → Standing
behind_atom Dashed = Fresh
behind_atom _ = Member

abbrev pub is_member : Standing → Bool
is_member Member = true
is_member _ = false

abbrev pub each_some : List ℕ → List (Option ℕ)
each_some [] = []
each_some (v ∷ vs) = Some v ∷ each_some vs

-- a character, without `u` as its units
abbrev pub characters : Bool → ℕ → List (Option ℕ)
characters u v = each_some (units u v)

-- what a ClassAtom stands for: none if it is a class, or can't be read
abbrev pub atom_values : Bool → Option Valued → List (Option ℕ)
atom_values u (Some (Some v, rest)) = characters u v
atom_values u (Some (None, rest)) = None ∷ []
atom_values u None = None ∷ []

-- the `^` behind a `[`
abbrev pub caret_length : List ℕ → ℕ
caret_length cs = if begins_with (one_of "^") cs then 1 else 0

-- the character behind a backslash, outside of classes
abbrev pub escaped_length : ℕ → ℕ
escaped_length c = if one_of "\\" c then 1 else 0

-- the `-` of a range: one at the end of its class is a character
abbrev pub is_range_dash : Standing → ℕ → List ℕ → Bool
is_range_dash standing c cs = is_member standing && one_of "-" c && not (begins_with (one_of "]") cs)

-- The CharacterValues of all ClassAtoms, from a place on. None stands for what keeps characters apart: the `[` of a class, a class of characters in it, the
-- `-` of a range. So many characters that stand next were read already.
abbrev pub values_from : Bool → Standing → ℕ → List ℕ → List (Option ℕ)
values_from u standing read [] = []
values_from u standing (suc read) (c ∷ cs) = values_from u standing read cs
values_from u Outside zero (c ∷ cs) =
    if one_of "[" c then None ∷ values_from u Fresh (caret_length cs) cs else values_from u Outside (escaped_length c) cs
values_from u standing zero (c ∷ cs) =
    if one_of "]" c then values_from u Outside 0 cs
    else if is_range_dash standing c cs then None ∷ values_from u Dashed 0 cs
    else atom_values u (class_atom u c cs) ++ values_from u (behind_atom standing) (read_of cs (class_atom u c cs)) cs

abbrev pub class_values : Bool → List ℕ → List (Option ℕ)
class_values u pattern = values_from u Outside 0 pattern
