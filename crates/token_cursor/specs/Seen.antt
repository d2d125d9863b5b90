-- The token that stands ahead, at a text's own places.
use Rattle.std.specs.Prelude.{◌≡◌, ℕ, Bool, true, false, not, List, [], ◌∷◌}
use Rattle.tokens.specs.declared.token.TokenClass.{TokenClass}
use Rattle.tokens.specs.declared.token.TokenClass.TheVariants.{IdentifierName, Keyword, NumericLiteral, StringLiteral}
use Rattle.tokens.specs.declared.token.Goal.{Goal}
use Rattle.language.specs.Token.{Token}
use Rattle.language.specs.Vocabulary.{among, is_reserved}
use Rattle.language.specs.Derivation.{Reads}
use Rattle.language.specs.Promises.{ReadBy}
use Rattle.token_cursor.specs.SourceText.{SourceText, SeenNext, behind_in}

-- a token of a class and a text is read behind a place, and reading goes on at another, behind it
abbrev pub ReadsHere : SourceText → TokenClass → List ℕ → Token → Token → Type 0
ReadsHere text c w s e = Reads Token (SeenNext text) (behind_in text) c w s (behind_in text e) e

-- some such token is read there
abbrev pub Sees : SourceText → TokenClass → List ℕ → Token → Type 0
Sees text c w s = (e : Token) × ReadsHere text c w s e

-- none is
abbrev pub Misses : SourceText → TokenClass → List ℕ → Token → Type 0
Misses text c w s = (t e : Token) → Reads Token (SeenNext text) (behind_in text) c w s t e → ⊥

-- a name that passes a test is read behind a place; none is
abbrev pub NameHere : SourceText → (List ℕ → Bool) → Token → Token → Type 0
NameHere text p s e = ReadsHere text IdentifierName e.text s e × (p e.text ≡ true)

abbrev pub NoName : SourceText → (List ℕ → Bool) → Token → Type 0
NoName text p s = (t e : Token) → Reads Token (SeenNext text) (behind_in text) IdentifierName t.text s t e → p t.text ≡ true → ⊥

-- the classes of an object's keys (12.2.6)
abbrev pub is_key_class : TokenClass → Bool
is_key_class IdentifierName = true
is_key_class Keyword = true
is_key_class NumericLiteral = true
is_key_class StringLiteral = true
is_key_class _ = false

-- any name is read behind a place, one that the language reserves too; none is
abbrev pub is_word_class : TokenClass → Bool
is_word_class IdentifierName = true
is_word_class Keyword = true
is_word_class _ = false

abbrev pub WordHere : SourceText → Token → Token → Type 0
WordHere text s e = SeenNext text s (behind_in text e) e × (is_word_class (behind_in text e).class ≡ true)

abbrev pub NoWord : SourceText → Token → Type 0
NoWord text s = (t e : Token) → SeenNext text s t e → is_word_class t.class ≡ false

-- a token is read by a goal that passes a test; some such token is; each that it reads, if it reads one, fails the test
abbrev pub TokenHere : SourceText → Goal → (Token → Bool) → Token → Token → Type 0
TokenHere text g p s e = ReadBy Token (SeenNext text) (behind_in text) g s (behind_in text e) e × (p (behind_in text e) ≡ true)

abbrev pub SeesBy : SourceText → Goal → (Token → Bool) → Token → Type 0
SeesBy text g p s = (e : Token) × TokenHere text g p s e

abbrev pub MissesBy : SourceText → Goal → (Token → Bool) → Token → Type 0
MissesBy text g p s = (t m : Token) → ReadBy Token (SeenNext text) (behind_in text) g s t m → p t ≡ false

-- an Identifier (ECMA-262 12.1), and a word that declares variables (13.3)
abbrev pub is_free_name : List ℕ → Bool
is_free_name w = not (is_reserved w)

abbrev pub declares : List ℕ → Bool
declares w = among w ("var" ∷ "let" ∷ "const" ∷ [])
