-- CharacterClass (ECMA-262, 13th edition, 22.2.1), with its early errors (22.2.1.1).
use Rattle.std.specs.Prelude.{ℕ, zero, suc, ◌-◌, Bool, true, false, ◌&&◌, List, [], ◌∷◌, length, drop, nat_le, Option, Some, None, if◌then◌else◌}
use Rattle.std.specs.Char.Escape.{encode_utf16}
use Rattle.tokens.specs.Alphabet.{one_of, begins_with}
use Rattle.regular_expressions.specs.Characters.{Valued, escape}

-- ClassRanges, by the last ClassAtom that may still begin a range: its CharacterValue, or none if it is a class
pub data Ranges : Type 0 where
  fresh : Ranges
  member : Option ℕ → Ranges
  -- behind its `-`
  dashed : Option ℕ → Ranges

abbrev pub in_order : Option ℕ → Option ℕ → Bool
in_order (Some a) (Some b) = nat_le a b
in_order _ _ = false

-- behind one more ClassAtom; none where a range has a class at one end, or is out of order
abbrev pub next_member : Ranges → Option ℕ → Option Ranges
next_member fresh v = Some (member v)
next_member (member a) v = Some (member v)
next_member (dashed a) v = if in_order a v then Some fresh else None

abbrev pub next_members : Option Ranges → List ℕ → Option Ranges
next_members None vs = None
next_members (Some ranges) [] = Some ranges
next_members (Some ranges) (v ∷ vs) = next_members (next_member ranges (Some v)) vs

-- A character as SourceCharacters: without `u` they are units of UTF-16.
abbrev pub units : Bool → ℕ → List ℕ
units true c = c ∷ []
units false c = encode_utf16 c

-- behind a `-` without a backslash
abbrev pub next_dash : Ranges → Option Ranges
next_dash (member a) = Some (dashed a)
next_dash fresh = next_member fresh (Some 0x2D)
next_dash (dashed a) = next_member (dashed a) (Some 0x2D)

-- ClassEscape behind its backslash
abbrev pub class_escape : Bool → List ℕ → Option Valued
class_escape u [] = None
class_escape u (c ∷ cs) =
    if one_of "b" c then Some (Some 0x8, cs) else if u && one_of "-" c then Some (Some 0x2D, cs) else escape u (c ∷ cs)

-- ClassAtomNoDash
abbrev pub class_atom : Bool → ℕ → List ℕ → Option Valued
class_atom u c cs = if one_of "\\" c then class_escape u cs else Some (Some c, cs)

abbrev pub next_atom : Bool → Ranges → Option Valued → Option Ranges
next_atom u ranges None = None
next_atom u ranges (Some (None, rest)) = next_member ranges None
next_atom u ranges (Some (Some v, rest)) = next_members (Some ranges) (units u v)

-- how many of the characters were read
abbrev pub read_of : List ℕ → Option Valued → ℕ
read_of cs None = 0
read_of cs (Some (v, rest)) = length cs - length rest

-- ClassRanges `]` behind these ranges: the text behind. So many characters that stand next were read already.
abbrev pub class_behind : Bool → Option Ranges → ℕ → List ℕ → Option (List ℕ)
class_behind u None read cs = None
class_behind u (Some ranges) read [] = None
class_behind u (Some ranges) (suc read) (c ∷ cs) = class_behind u (Some ranges) read cs
class_behind u (Some ranges) zero (c ∷ cs) =
    if one_of "]" c then Some cs
    else if one_of "-" c then class_behind u (next_dash ranges) 0 cs
    else class_behind u (next_atom u ranges (class_atom u c cs)) (read_of cs (class_atom u c cs)) cs

-- behind the `[`
abbrev pub class : Bool → List ℕ → Option (List ℕ)
class u text = class_behind u (Some fresh) 0 (if begins_with (one_of "^") text then drop 1 text else text)
