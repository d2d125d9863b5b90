-- The text that is read, in a language: its tokens are as the language sees them, and so are the places between them.
use Rattle.std.specs.Prelude.{ℕ, List}
use Rattle.tokens.specs.declared.token.TokenClass.{TokenClass}
use Rattle.tokens.specs.declared.token.TokenClass.TheVariants.{IdentifierName, Keyword}
use Rattle.tokens.specs.Reading.{any_goal}
use Rattle.language.specs.declared.Language.{Language}
use Rattle.language.specs.Token.{Token}
use Rattle.language.specs.Places.{NextIn}
use Rattle.language.specs.Languages.{Seen, seen_in}

-- the text in UTF-8, and its language
pub record SourceText : Type 0 where
  pub bytes : List ℕ
  pub language : Language

-- behind a place a token is read by some goal, and seen by the language
abbrev pub SeenNext : SourceText → Token → Token → Token → Type 0
SeenNext text = Seen Token (NextIn text.bytes any_goal) text.language

-- the token behind which a place is, as the language sees it
abbrev pub behind_in : SourceText → Token → Token
behind_in text = seen_in text.language

-- the token that a language sees so: no scan gives a keyword
abbrev pub unseen_class : TokenClass → TokenClass
unseen_class Keyword = IdentifierName
unseen_class class = class

abbrev pub unseen : Token → Token
unseen token = record token { class = unseen_class token.class }
