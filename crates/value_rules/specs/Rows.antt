-- Rules that ask for the value of a literal, row by row: the name, what is reported, and what it says.
use Rattle.std.specs.Prelude.{ℕ, ◌-◌, Bool, not, ◌||◌, ◌&&◌, List, length, slice_index, codes}
use Rattle.tokens.specs.Alphabet.{one_of, is_decimal_digit}
use Rattle.std.specs.Str.{chars}
use Rattle.number_precision.specs.Precision.{loses_precision}
use Rattle.pattern_analysis.specs.Misleading.{has_misleading_class}
use Rattle.pattern_analysis.specs.UselessReferences.{has_useless_reference}
use Rattle.value_rules.specs.declared.value_rule.ValueRule.{ValueRule}
use Rattle.value_rules.specs.declared.value_rule.ValueRule.TheVariants.{NoLossOfPrecision, NoMisleadingCharacterClass, NoUselessBackreference}

-- what settings and reports call a rule
abbrev pub called : ValueRule → List ℕ
called NoLossOfPrecision = codes "no-loss-of-precision"
called NoMisleadingCharacterClass = codes "no-misleading-character-class"
called NoUselessBackreference = codes "no-useless-backreference"

-- a NumericLiteral (12.9.3) without BigIntLiteralSuffix
abbrev pub is_number : List ℕ → Bool
is_number text = (is_decimal_digit (slice_index text 0) || one_of "." (slice_index text 0)) && not (one_of "n" (slice_index text (length text - 1)))

-- a RegularExpressionLiteral (12.9.5)
abbrev pub is_pattern : List ℕ → Bool
is_pattern text = one_of "/" (slice_index text 0)

-- a literal with this text is reported
abbrev pub holds : ValueRule → List ℕ → Bool
holds NoLossOfPrecision text = is_number text && loses_precision text
holds NoMisleadingCharacterClass text = is_pattern text && has_misleading_class (chars text)
holds NoUselessBackreference text = is_pattern text && has_useless_reference (chars text)

-- what a rule says
abbrev pub says : ValueRule → List ℕ
says NoLossOfPrecision = codes "digits that the number doesn't keep"
says NoMisleadingCharacterClass = codes "several code points seem to be one character"
says NoUselessBackreference = codes "a backreference to a group that isn't matched before it"
