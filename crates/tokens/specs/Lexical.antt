-- The classes of tokens (ECMA-262 11.5 to 11.8), and which of a class stands at a place: the longest.
use Rattle.std.specs.Prelude.{ℕ, Bool, true, false, not, ◌&&◌, ◌||◌, List, [], ◌∷◌, ◌++◌, codes}
use Rattle.std.specs.List.{list_all}
use Rattle.std.specs.Str.{bytes_eq}
use Prim.Native.String.{String}
-- the classes, as the program has them: `StringLiteral` is that of strings; the end of the text is a token too
pub use Rattle.tokens.specs.declared.token.TokenClass.{TokenClass as LexicalClass}
pub use Rattle.tokens.specs.declared.token.TokenClass.TheVariants.{IdentifierName, Punctuator, NumericLiteral, StringLiteral, Template, RegularExpressionLiteral, PrivateName, Keyword, End}
use Rattle.tokens.specs.Alphabet.{one_of, begins_with, is_empty, is_identifier_start, is_identifier_part, is_decimal_digit}
use Rattle.tokens.specs.Numbers.{is_number}
use Rattle.tokens.specs.Strings.{is_string}
use Rattle.tokens.specs.Templates.{is_template}
use Rattle.tokens.specs.RegularExpressions.{is_regular_expression}

-- IdentifierName (11.6.1), reserved words among them
abbrev pub is_name : List ℕ → Bool
is_name [] = false
is_name (c ∷ cs) = is_identifier_start c && list_all is_identifier_part cs

-- PrivateIdentifier (12.6 of the 13th edition)
abbrev pub is_private_name : List ℕ → Bool
is_private_name [] = false
is_private_name (c ∷ cs) = one_of "#" c && is_name cs

abbrev pub is_one_of_words : List String → List ℕ → Bool
is_one_of_words [] text = false
is_one_of_words (word ∷ words) text = bytes_eq text (codes word) || is_one_of_words words text

-- Punctuator, DivPunctuator and RightBracePunctuator (11.7), with the three logical assignments of the 12th edition
abbrev pub punctuators : List String
punctuators = "{" ∷ "(" ∷ ")" ∷ "[" ∷ "]" ∷ "." ∷ "..." ∷ ";" ∷ "," ∷ "<" ∷ ">" ∷ "<=" ∷ ">=" ∷ "==" ∷ "!="
    ∷ "===" ∷ "!==" ∷ "+" ∷ "-" ∷ "*" ∷ "%" ∷ "**" ∷ "++" ∷ "--" ∷ "<<" ∷ ">>" ∷ ">>>" ∷ "&" ∷ "|" ∷ "^" ∷ "!" ∷ "~" ∷ "&&" ∷ "||" ∷ "??"
    ∷ "?" ∷ "?." ∷ ":" ∷ "=" ∷ "+=" ∷ "-=" ∷ "*=" ∷ "%=" ∷ "**=" ∷ "<<=" ∷ ">>=" ∷ ">>>=" ∷ "&=" ∷ "|=" ∷ "^=" ∷ "&&=" ∷ "||=" ∷ "??=" ∷ "=>" ∷ "/" ∷ "/=" ∷ "}" ∷ []

abbrev pub is_punctuator : List ℕ → Bool
is_punctuator text = is_one_of_words punctuators text

-- a text of the class, whatever stands behind it
abbrev pub is_of : LexicalClass → List ℕ → Bool
is_of IdentifierName text = is_name text
is_of Punctuator text = is_punctuator text
is_of NumericLiteral text = is_number text
is_of StringLiteral text = is_string text
is_of Template text = is_template text
is_of RegularExpressionLiteral text = is_regular_expression text
is_of PrivateName text = is_private_name text
-- a language sees a name so; no scan gives it
is_of Keyword text = false
is_of End text = is_empty text

-- What a class asks of what stands behind, for a text to be of it at its place: `?.` is no punctuator before a digit
-- (OptionalChainingPunctuator, 11.7), nor is `.`, with which a number begins there; the end is behind everything
abbrev pub may_stand : LexicalClass → List ℕ → List ℕ → Bool
may_stand Punctuator text rest = not (is_one_of_words ("?." ∷ "." ∷ []) text && begins_with is_decimal_digit rest)
may_stand End text rest = is_empty rest
may_stand IdentifierName text rest = true
may_stand NumericLiteral text rest = true
may_stand StringLiteral text rest = true
may_stand Template text rest = true
may_stand RegularExpressionLiteral text rest = true
may_stand PrivateName text rest = true
may_stand Keyword text rest = true

-- a text of the class at its place
abbrev pub is_at : LexicalClass → List ℕ → List ℕ → Bool
is_at class text rest = is_of class text && may_stand class text rest

-- no text of the class goes on into what stands behind
abbrev pub none_longer : LexicalClass → List ℕ → List ℕ → Bool
none_longer class text [] = true
none_longer class text (c ∷ rest) = not (is_at class (text ++ c ∷ []) rest) && none_longer class (text ++ c ∷ []) rest

-- what may not follow the longest: behind a number no IdentifierStart and no digit (11.8.3)
abbrev pub ends_well : LexicalClass → List ℕ → Bool
ends_well NumericLiteral rest = not (begins_with is_identifier_start rest || begins_with is_decimal_digit rest)
ends_well IdentifierName rest = true
ends_well Punctuator rest = true
ends_well StringLiteral rest = true
ends_well Template rest = true
ends_well RegularExpressionLiteral rest = true
ends_well PrivateName rest = true
ends_well Keyword rest = true
ends_well End rest = true

-- the longest of its class at its place (11)
abbrev pub is_token : LexicalClass → List ℕ → List ℕ → Bool
is_token class text rest = is_at class text rest && none_longer class text rest && ends_well class rest
