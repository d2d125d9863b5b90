-- What of a pattern says which groups there are and which references (ECMA-262, 13th edition, 22.2.1). A pattern is read character by character, so it may be
-- one of Annex B: a backslash takes the character behind it, or the digits of a DecimalEscape; a class goes from its `[` to the next `]`; a `(` is told by what
-- follows it.
use Rattle.std.specs.Prelude.{ℕ, zero, suc, Bool, true, false, not, List, [], ◌∷◌, ◌++◌, length, drop, if◌then◌else◌}
use Rattle.tokens.specs.Alphabet.{one_of, begins_with, is_non_zero_digit}
use Rattle.regular_expressions.specs.Terms.{decimal_value, digits}
use Rattle.pattern_analysis.specs.declared.opening.Opening.{Opening}
use Rattle.pattern_analysis.specs.declared.opening.Opening.TheVariants.{Capturing, Grouping, Lookahead, Lookbehind}

-- a `(`, a `)`, a `|`, and a DecimalEscape
pub data Mark : Type 0 where
  opening : Opening → Mark
  closing : Mark
  bar : Mark
  reference : ℕ → Mark

-- what a `(` begins, by what follows it
abbrev pub angle_of : List ℕ → Opening
angle_of text = if begins_with (one_of "=!") text then Lookbehind (begins_with (one_of "!") text) else Capturing

abbrev pub question_of : List ℕ → Opening
question_of [] = Grouping
question_of (c ∷ cs) = if one_of "=!" c then Lookahead (one_of "!" c) else if one_of "<" c then angle_of cs else Grouping

abbrev pub opening_of : List ℕ → Opening
opening_of text = if begins_with (one_of "?") text then question_of (drop 1 text) else Capturing

-- behind a backslash: whether a reference stands there, the marks of it, and how much is taken
abbrev pub is_reference : List ℕ → Bool
is_reference text = begins_with is_non_zero_digit text

abbrev pub escape_marks : List ℕ → List Mark
escape_marks text = if is_reference text then reference (decimal_value 0 (digits text)) ∷ [] else []

abbrev pub escape_length : List ℕ → ℕ
escape_length text = if is_reference text then length (digits text) else 1

-- outside of classes, of a character that is no backslash, by what follows it
abbrev pub character_marks : ℕ → List ℕ → List Mark
character_marks c text = if one_of "(" c then opening (opening_of text) ∷ [] else if one_of ")" c then closing ∷ [] else if one_of "|" c then bar ∷ [] else []

-- from a place on, in a class or in none; so many characters that stand next were read already
abbrev pub marks_from : (in_class : Bool) → ℕ → List ℕ → List Mark
marks_from in_class read [] = []
marks_from in_class (suc read) (c ∷ cs) = marks_from in_class read cs
marks_from true zero (c ∷ cs) = marks_from (not (one_of "]" c)) (if one_of "\\" c then 1 else 0) cs
marks_from false zero (c ∷ cs) =
    if one_of "\\" c then escape_marks cs ++ marks_from false (escape_length cs) cs else character_marks c cs ++ marks_from (one_of "[" c) 0 cs

abbrev pub marks_of : List ℕ → List Mark
marks_of pattern = marks_from false 0 pattern
