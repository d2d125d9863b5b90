-- The pieces of a pattern (ECMA-262, 13th edition, 22.2.1, without Annex B): what stands in a Disjunction, one after the other. Groups and lookarounds
-- are two pieces, that before their Disjunction and that behind it.
use Rattle.std.specs.Prelude.{ℕ, ◌+◌, ◌*◌, ◌-◌, Bool, true, ◌&&◌, ◌||◌, List, [], ◌∷◌, length, drop, take_while, nat_le, Option, Some, None, if◌then◌else◌}
use Rattle.tokens.specs.Alphabet.{one_of, begins_with, is_empty, is_decimal_digit, is_non_zero_digit}
use Rattle.regular_expressions.specs.Characters.{Valued, escape}
use Rattle.regular_expressions.specs.Classes.{class}
use Rattle.regular_expressions.specs.Names.{group_name}

pub data Piece : Type 0 where
  -- `|`, and the `)` that ends a group or a lookaround
  bar closing : Piece
  -- `^`, `$`, `\b`, `\B`
  assertion : Piece
  -- the beginning of a lookahead or a lookbehind; `(?:`; the `(` of a group without a name, and `(?<name>`
  looking grouping capturing : Piece
  naming : List ℕ → Piece
  -- Quantifier
  repeating : Piece
  -- an Atom that is no group
  atom : Piece
  -- DecimalEscape, and `\k<name>`
  reference : ℕ → Piece
  name_reference : List ℕ → Piece

-- a piece, and the text behind it
abbrev pub Read : Type 0
Read = Piece × List ℕ

abbrev pub read_as : Piece → Option (List ℕ) → Option Read
read_as piece None = None
read_as piece (Some rest) = Some (piece, rest)

-- DecimalDigits

abbrev pub digits : List ℕ → List ℕ
digits text = take_while is_decimal_digit text

abbrev pub behind_digits : List ℕ → List ℕ
behind_digits text = drop (length (digits text)) text

-- their MV, behind that of those before them
abbrev pub decimal_value : ℕ → List ℕ → ℕ
decimal_value before [] = before
decimal_value before (c ∷ cs) = decimal_value (10 * before + (c - 0x30)) cs

-- Quantifier

-- the `?` that may end it
abbrev pub behind_lazy : List ℕ → List ℕ
behind_lazy text = if begins_with (one_of "?") text then drop 1 text else text

-- `}` behind one number, or behind two of which the first isn't the greater one
abbrev pub closed_count : Bool → List ℕ → Option (List ℕ)
closed_count is_good text = if is_good && begins_with (one_of "}") text then Some (behind_lazy (drop 1 text)) else None

-- behind `{n,`
abbrev pub most : List ℕ → List ℕ → Option (List ℕ)
most least text =
    closed_count (is_empty (digits text) || nat_le (decimal_value 0 least) (decimal_value 0 (digits text))) (behind_digits text)

-- behind `{n`
abbrev pub least : List ℕ → List ℕ → Option (List ℕ)
least n text = if begins_with (one_of ",") text then most n (drop 1 text) else closed_count true text

-- behind `{`
abbrev pub counted : List ℕ → Option (List ℕ)
counted text = if is_empty (digits text) then None else least (digits text) (behind_digits text)

-- Groups and lookarounds

abbrev pub named : Option (List ℕ × List ℕ) → Option Read
named None = None
named (Some (name, rest)) = Some (naming name, rest)

-- behind `(?<`
abbrev pub behind_angle : List ℕ → Option Read
behind_angle text = if begins_with (one_of "=!") text then Some (looking, drop 1 text) else named (group_name text)

-- behind `(?`
abbrev pub behind_question : List ℕ → Option Read
behind_question [] = None
behind_question (c ∷ cs) =
    if one_of ":" c then Some (grouping, cs) else if one_of "=!" c then Some (looking, cs) else if one_of "<" c then behind_angle cs else None

-- behind `(`
abbrev pub opening : List ℕ → Option Read
opening text = if begins_with (one_of "?") text then behind_question (drop 1 text) else Some (capturing, text)

-- AtomEscape, and the Assertions `\b` and `\B`

abbrev pub name_referred : Option (List ℕ × List ℕ) → Option Read
name_referred None = None
name_referred (Some (name, rest)) = Some (name_reference name, rest)

abbrev pub valued_atom : Option Valued → Option Read
valued_atom None = None
valued_atom (Some (v, rest)) = Some (atom, rest)

-- behind the backslash
abbrev pub atom_escape : Bool → List ℕ → Option Read
atom_escape u [] = None
atom_escape u (c ∷ cs) =
    if one_of "bB" c then Some (assertion, cs)
    else if is_non_zero_digit c then Some (reference (decimal_value 0 (digits (c ∷ cs))), behind_digits (c ∷ cs))
    else if one_of "k" c then (if begins_with (one_of "<") cs then name_referred (group_name (drop 1 cs)) else None)
    else valued_atom (escape u (c ∷ cs))

-- the piece that begins with a character, which stands before these; none where none does
abbrev pub piece : Bool → ℕ → List ℕ → Option Read
piece u c cs =
    if one_of "|" c then Some (bar, cs)
    else if one_of ")" c then Some (closing, cs)
    else if one_of "^$" c then Some (assertion, cs)
    else if one_of "(" c then opening cs
    else if one_of "*+?" c then Some (repeating, behind_lazy cs)
    else if one_of "{" c then read_as repeating (counted cs)
    else if one_of "[" c then read_as atom (class u cs)
    else if one_of "\\" c then atom_escape u cs
    else if one_of "]}" c then None
    else Some (atom, cs)
