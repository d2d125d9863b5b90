-- The states of the program's own readers of numbers and regular expressions, as those of the definitions.
use Rattle.std.specs.Prelude.{Bool, true, false}
use Rattle.tokens.specs.declared.number.Base.{Base as ReaderBase}
use Rattle.tokens.specs.declared.number.Base.TheVariants.{Binary, Octal, Hexadecimal}
use Rattle.tokens.specs.declared.number.NumberState.{NumberState}
use Rattle.tokens.specs.declared.number.NumberState.TheVariants.{Unread, Zero, Integer, LeadingPoint, Point, Fraction, ExponentMark, ExponentSign, Exponent, Prefix, Digits, IntegerSeparator, FractionSeparator, ExponentSeparator, DigitsSeparator, Suffix, Dead}
use Rattle.tokens.specs.declared.regexp.RegExpState.{RegExpState}
use Rattle.tokens.specs.declared.regexp.RegExpState.TheVariants.{Opened, Body, Brackets, Flags, BodyBackslash, BracketsBackslash, Failed}
use Rattle.tokens.specs.Numbers.{Base, binary, octal, hexadecimal, Numeral, unread, zero_read, integer, leading_point, point, fraction, exponent_mark, exponent_sign, exponent, prefix, digits, integer_separator, fraction_separator, exponent_separator, digits_separator, suffix, no_numeral}
use Rattle.tokens.specs.RegularExpressions.{RegularExpression, opened, body, brackets, flags, body_backslash, brackets_backslash, no_expression}

abbrev pub base_of : ReaderBase → Base
base_of Binary = binary
base_of Octal = octal
base_of Hexadecimal = hexadecimal

abbrev pub numeral_of : NumberState → Numeral
numeral_of Unread = unread
numeral_of Zero = zero_read
numeral_of Integer = integer
numeral_of LeadingPoint = leading_point
numeral_of Point = point
numeral_of Fraction = fraction
numeral_of ExponentMark = exponent_mark
numeral_of ExponentSign = exponent_sign
numeral_of Exponent = exponent
numeral_of (Prefix base) = prefix (base_of base)
numeral_of (Digits base) = digits (base_of base)
numeral_of IntegerSeparator = integer_separator
numeral_of FractionSeparator = fraction_separator
numeral_of ExponentSeparator = exponent_separator
numeral_of (DigitsSeparator base) = digits_separator (base_of base)
numeral_of Suffix = suffix
numeral_of Dead = no_numeral

-- nothing goes on from there
abbrev pub is_dead : Numeral → Bool
is_dead no_numeral = true
is_dead _ = false

abbrev pub expression_of : RegExpState → RegularExpression
expression_of Opened = opened
expression_of Body = body
expression_of Brackets = brackets
expression_of Flags = flags
expression_of BodyBackslash = body_backslash
expression_of BracketsBackslash = brackets_backslash
expression_of Failed = no_expression

abbrev pub is_over : RegularExpression → Bool
is_over no_expression = true
is_over _ = false
