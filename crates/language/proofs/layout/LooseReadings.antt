-- A text read with its keywords as keywords or as names.
use Rattle.std.proofs.Common.{◌≡◌, true}
use Rattle.tokens.specs.declared.token.TokenClass.TheVariants.{IdentifierName, Keyword}
use Rattle.language.specs.Vocabulary.{is_keyword}
use Rattle.language.specs.Token.{Token}

-- keywords are read as keywords, or as names
pub data Loose (S : Type 0) (Next : S → Token → S → Type 0) : S → Token → S → Type 0 where
  plainly : {s : S} {t : Token} {e : S} → Next s t e → Loose S Next s t e
  reserved : {s : S} {t : Token} {e : S} → Next s t e → t.class ≡ IdentifierName → is_keyword t.text ≡ true → Loose S Next s (record t { class = Keyword }) e
