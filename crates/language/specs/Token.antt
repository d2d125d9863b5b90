-- Tokens, as the table has them. A template's part has its raw value as its text, with its delimiters; the end of the text is a token too.
use Rattle.std.specs.Prelude.{ℕ, Bool, true, false, ◌&&◌, List}
use Rattle.std.specs.Str.{bytes_eq}
use Rattle.tokens.specs.declared.token.TokenClass.{TokenClass}
use Rattle.tokens.specs.Templates.{raw_value}
use Rattle.tokens.specs.Tokens.{LexicalToken}
use Rattle.tokens.specs.declared.token.TokenClass.TheVariants.{IdentifierName, Punctuator, NumericLiteral, StringLiteral, Template, RegularExpressionLiteral, PrivateName, Keyword, End}

abbrev pub Token : Type 0
Token = LexicalToken

abbrev pub same_class : TokenClass → TokenClass → Bool
same_class IdentifierName IdentifierName = true
same_class Punctuator Punctuator = true
same_class NumericLiteral NumericLiteral = true
same_class StringLiteral StringLiteral = true
same_class Template Template = true
same_class RegularExpressionLiteral RegularExpressionLiteral = true
same_class PrivateName PrivateName = true
same_class Keyword Keyword = true
same_class End End = true
same_class _ _ = false

-- the token has this class and text
abbrev pub is_token : TokenClass → List ℕ → Token → Bool
is_token token_class word token = same_class token_class token.class && bytes_eq token.text word

abbrev pub is_mark : List ℕ → Token → Bool
is_mark text token = is_token Punctuator text token

-- a template token's text with its line ends turned (11.8.6.1), any other token's as it stands
abbrev pub table_text : TokenClass → List ℕ → List ℕ
table_text Template text = raw_value text
table_text _ text = text

abbrev pub as_read : LexicalToken → Token
as_read t = record t { text = table_text t.class t.text }
