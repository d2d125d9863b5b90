-- Whole patterns (ECMA-262, 13th edition, 22.2.1): how groups and lookarounds stand in one another, and which Atoms a Quantifier follows; then the
-- early errors of 22.2.1.1 that take the whole pattern to see.
use Rattle.std.specs.Prelude.{ℕ, zero, suc, ◌+◌, ◌-◌, Bool, true, false, not, ◌&&◌, List, [], ◌∷◌, ◌++◌, length, take, drop, nat_le, nat_eq, Option, Some, None, option_map, if◌then◌else◌}
use Rattle.std.specs.List.{list_any}
use Rattle.std.specs.Str.{bytes_eq}
use Rattle.tokens.specs.Alphabet.{one_of, is_empty}
use Rattle.tokens.specs.Tokens.{size}
use Rattle.regular_expressions.specs.Terms.{Piece, bar, closing, assertion, looking, grouping, capturing, naming, repeating, atom, reference, name_reference, Read, piece}

-- what stands at a place, in bytes: a piece, or none that can be read
abbrev pub Placed : Type 0
Placed = ℕ × Option Piece

abbrev pub with_piece : ℕ → Option Read → List Placed → List Placed
with_piece at None pieces = (at, None) ∷ []
with_piece at (Some (p, rest)) pieces = (at, Some p) ∷ pieces

-- how many of the characters were read
abbrev pub read_of : List ℕ → Option Read → ℕ
read_of cs None = 0
read_of cs (Some (p, rest)) = length cs - length rest

-- the pieces from a place on, up to the first that can't be read; so many characters that stand next were read already
abbrev pub pieces_from : Bool → ℕ → ℕ → List ℕ → List Placed
pieces_from u read at [] = []
pieces_from u (suc read) at (c ∷ cs) = pieces_from u read (at + size (c ∷ [])) cs
pieces_from u zero at (c ∷ cs) = with_piece at (piece u c cs) (pieces_from u (read_of cs (piece u c cs)) (at + size (c ∷ [])) cs)

abbrev pub pieces_of : Bool → List ℕ → List Placed
pieces_of u pattern = pieces_from u 0 0 pattern

-- Nesting

-- what the pieces so far make
pub record Nested : Type 0 where
  -- an Atom stands next before, without a Quantifier
  pub repeatable : Bool
  -- how many groups are open in the innermost lookaround, or outside of all; and in those around it, from within
  pub groups : ℕ
  pub around : List ℕ

abbrev pub outermost : Nested
outermost = record { repeatable = false; groups = 0; around = [] }

-- behind a `)`: that of a group, which is an Atom, or that of a lookaround, which is an Assertion
abbrev pub closed : ℕ → List ℕ → Option Nested
closed (suc groups) around = Some (record { repeatable = true; groups = groups; around = around })
closed zero (groups ∷ around) = Some (record { repeatable = false; groups = groups; around = around })
closed zero [] = None

-- behind one more piece; none where it can't stand
abbrev pub nest : Nested → Piece → Option Nested
nest z bar = Some (record z { repeatable = false })
nest z closing = closed z.groups z.around
nest z assertion = Some (record z { repeatable = false })
nest z looking = Some (record { repeatable = false; groups = 0; around = z.groups ∷ z.around })
nest z grouping = Some (record z { repeatable = false; groups = z.groups + 1 })
nest z capturing = Some (record z { repeatable = false; groups = z.groups + 1 })
nest z (naming name) = Some (record z { repeatable = false; groups = z.groups + 1 })
nest z repeating = if z.repeatable then Some (record z { repeatable = false }) else None
nest z atom = Some (record z { repeatable = true })
nest z (reference n) = Some (record z { repeatable = true })
nest z (name_reference name) = Some (record z { repeatable = true })

abbrev pub nest_if : Nested → Option Piece → Option Nested
nest_if z None = None
nest_if z (Some p) = nest z p

-- whether no group is open
abbrev pub is_closed : Nested → Bool
is_closed z = nat_eq z.groups 0 && is_empty z.around

-- the first place where a pattern isn't derived: that of the piece that can't stand there, or its end if a group is open there. Behind this place
-- none is, once a piece couldn't stand.
abbrev pub misplaced : ℕ → ℕ → Option Nested → List Placed → Option ℕ
misplaced end last None pieces = Some last
misplaced end last (Some z) [] = if is_closed z then None else Some end
misplaced end last (Some z) ((at, p) ∷ pieces) = misplaced end at (nest_if z p) pieces

-- Early errors

-- NcapturingParens
abbrev pub group_count : List Placed → ℕ
group_count [] = 0
group_count ((at, Some capturing) ∷ pieces) = suc (group_count pieces)
group_count ((at, Some (naming name)) ∷ pieces) = suc (group_count pieces)
group_count ((at, _) ∷ pieces) = group_count pieces

abbrev pub name_of : Option Piece → List (List ℕ)
name_of (Some (naming name)) = name ∷ []
name_of _ = []

abbrev pub group_names : List Placed → List (List ℕ)
group_names [] = []
group_names ((at, p) ∷ pieces) = name_of p ++ group_names pieces

abbrev pub has : List (List ℕ) → List ℕ → Bool
has names name = list_any (bytes_eq name) names

-- by the number and the names of all groups, and the names of those before
abbrev pub is_wrong : ℕ → List (List ℕ) → List (List ℕ) → Option Piece → Bool
is_wrong groups names before (Some (reference n)) = not (nat_le n groups)
is_wrong groups names before (Some (name_reference name)) = not (has names name)
is_wrong groups names before (Some (naming name)) = has before name
is_wrong groups names before _ = false

abbrev pub first_wrong : ℕ → List (List ℕ) → List (List ℕ) → List Placed → Option ℕ
first_wrong groups names before [] = None
first_wrong groups names before ((at, p) ∷ pieces) =
    if is_wrong groups names before p then Some at else first_wrong groups names (name_of p ++ before) pieces

abbrev pub early_fault : List Placed → Option ℕ
early_fault pieces = first_wrong (group_count pieces) (group_names pieces) [] pieces

-- the first place where a pattern isn't derived, or, if it is derived, its first early error
abbrev pub fault_of : Option ℕ → List Placed → Option ℕ
fault_of (Some place) pieces = Some place
fault_of None pieces = early_fault pieces

abbrev pub pattern_fault : Bool → List ℕ → Option ℕ
pattern_fault u pattern = fault_of (misplaced (size pattern) 0 (Some outermost) (pieces_of u pattern)) (pieces_of u pattern)

-- Literals

-- what stands before the last `/`, nothing if there is none
abbrev pub before_slash : List ℕ → List ℕ
before_slash [] = []
before_slash (c ∷ cs) = if list_any (one_of "/") cs then c ∷ before_slash cs else []

-- what stands behind the last `/`
abbrev pub behind_slash : List ℕ → List ℕ
behind_slash [] = []
behind_slash (c ∷ cs) = if list_any (one_of "/") cs then behind_slash cs else if one_of "/" c then cs else []

-- the pattern of a RegularExpressionLiteral, between its first `/` and its last; whether its flags have `u`
abbrev pub pattern_of : List ℕ → List ℕ
pattern_of literal = before_slash (drop 1 literal)

abbrev pub has_u : List ℕ → Bool
has_u literal = list_any (one_of "u") (behind_slash (drop 1 literal))

-- the place of the first fault of a literal's pattern, in bytes from the literal's start
abbrev pub first_fault : List ℕ → Option ℕ
first_fault literal = option_map (λ place. size (take 1 literal) + place) (pattern_fault (has_u literal) (pattern_of literal))
