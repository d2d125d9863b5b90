-- What is given of properties and members, by their names and what stands behind these (ECMA-262 12.2.6, 12.15.5, 14.3, 14.6).
use Rattle.std.specs.Prelude.{◌≡◌, ℕ, suc, ◌≤◌, Bool, true, false, not, ◌&&◌, ◌||◌, List, [], ◌∷◌, Option, Some, None, codes}
use Rattle.tokens.specs.declared.token.TokenClass.TheVariants.{IdentifierName, Punctuator}
use Rattle.tokens.specs.declared.token.Goal.TheVariants.{Div}
use Rattle.tokens.specs.declared.token.Token.{Token as Scanned}
use Rattle.tokens.specs.Scanned.{token_of}
use Rattle.tree.specs.declared.kind.Form.{Form}
use Rattle.tree.specs.declared.kind.Form.TheVariants.{Get, Set, Method, Generator, Async, AsyncGenerator}
use Rattle.tree.specs.declared.kind.Pair.{Pair}
use Rattle.tree.specs.Tree.{Tree, kind_of, text_of, height}
use Rattle.language.specs.Languages.{is_of_2022}
use Rattle.language.specs.Vocabulary.{is, among, is_identifier}
use Rattle.recursive_descent.specs.Modifiers.{follows, follows_async}
use Rattle.language.specs.declared.Rank.TheVariants.{Assignment}
use Rattle.language.specs.declared.Start.TheVariants.{Any}
use Rattle.language.specs.Token.{Token, as_read}
use Rattle.language.specs.Pieces.{Role, expr, private_name, with_default}
use Rattle.language.specs.Covers.{Reading, as_expression, as_pattern}
use Rattle.token_cursor.proofs.SeenTokens.{seen_determined}
use Rattle.language.proofs.covers.CoverProperties.{KeyAt}
use Rattle.recursive_descent.specs.CompletenessOfLists.{CommaOr}
use Rattle.token_cursor.specs.Seen.{ReadsHere, MissesBy, is_free_name}
use Rattle.parser_tables.specs.Tests.{begins_key}
use Rattle.token_cursor.specs.SourceText.{SourceText, SeenNext, behind_in, unseen}
use Rattle.recursive_descent.specs.Spelled.{SpellsIn, OfLanguage}

-- a token is read there on the line
abbrev pub OnItsLine : SourceText → Token → Type 0
OnItsLine text s = (t : Token) × (e : Token) × SeenNext text s t e × (t.after_break ≡ false)

-- `get` or `set` before a key, or `async` and `*`, or neither
pub data AccessGiven (text : SourceText) (s e : Token) : Form → Type 0 where
  gets : ReadsHere text IdentifierName (codes "get") s e → AccessGiven text s e Get
  sets : ReadsHere text IdentifierName (codes "set") s e → AccessGiven text s e Set
  a_star : is_of_2022 text.language ≡ true → ReadsHere text Punctuator (codes "*") s e → AccessGiven text s e Generator
  async_word : is_of_2022 text.language ≡ true → ReadsHere text IdentifierName (codes "async") s e → OnItsLine text e → AccessGiven text s e Async
  async_star : {m : Token} → is_of_2022 text.language ≡ true → ReadsHere text IdentifierName (codes "async") s m → OnItsLine text m → ReadsHere text Punctuator (codes "*") m e → AccessGiven text s e AsyncGenerator
  neither : e ≡ s → AccessGiven text s e Method

-- a key that is this word, in a class or behind its `static`, isn't one before the token: it is a word before a key
abbrev pub names_more : SourceText → Bool → List ℕ → Token → Bool
names_more text in_class w t =
    (among w ("get" ∷ "set" ∷ []) && begins_key t)
    || ((in_class && (is w "static" && follows text w t)) || (is_of_2022 text.language && (is w "async" && follows_async t)))

-- `static` before that, in a class, or not
pub data WordsGiven (text : SourceText) (in_class : Bool) (s e : Token) : Bool → Form → Type 0 where
  not_static : {f : Form} → AccessGiven text s e f → WordsGiven text in_class s e false f
  static : {f : Form} {m : Token} → in_class ≡ true → ReadsHere text IdentifierName (codes "static") s m → AccessGiven text m e f → WordsGiven text in_class s e true f

-- a key: an expression in brackets or one token, in a class perhaps a private name
pub data NamedAt (text : SourceText) (in_class : Bool) (o : ℕ) (k : Tree) (s e : Token) (P : List Pair) : Bool → Type 0 where
  a_key : {c : Bool} → KeyAt Token (SeenNext text) (behind_in text) (seen_determined text) o k s e P c → NamedAt text in_class o k s e P c
  a_private : in_class ≡ true → is_of_2022 text.language ≡ true → SpellsIn text o private_name k s e P → NamedAt text in_class o k s e P false

-- such a key with the words before it, where it is no such word itself
pub record NameGiven (text : SourceText) (in_class is_static : Bool) (f : Form) (computed : Bool) (o : ℕ) (k : Tree) (s e : Token) (P : List Pair) : Type 0 where
  pub mid : Token
  pub words : WordsGiven text in_class s mid is_static f
  pub key : NamedAt text in_class o k mid e P computed
  pub last : computed ≡ false → is_identifier (kind_of k) ≡ true → MissesBy text Div (names_more text (in_class && not is_static) (text_of k)) e

-- the token is the one behind which the place is
abbrev pub TokenIs : SourceText → Option Scanned → Token → Type 0
TokenIs text None e = ⊥
TokenIs text (Some t) e = (e ≡ unseen (as_read (token_of t))) × (behind_in text e ≡ as_read (token_of t))

-- the position of a property's value, in a reading
abbrev pub value_as : Reading → Tree → Option Role
value_as as_expression n = Some (expr Assignment true Any)
value_as (as_pattern b) n = with_default b (kind_of n)

-- What stands behind the key of a property that is no method: a value, nothing, or in a pattern a default; the whole is so high at least.
pub data ValueGiven (text : SourceText) (computed : Bool) (a : Reading) (o levels : ℕ) (s e : Token) : Type 0 where
  a_value : {r : Role} {n : Tree} {m : Token} {P : List Pair} → ReadsHere text Punctuator (codes ":") s m → suc (height n) ≤ levels → value_as a n ≡ Some r → SpellsIn text o r n m e P → OfLanguage text n → CommaOr text (codes "}") e → ValueGiven text computed a o levels s e
  a_name : computed ≡ false → (behind_in text s).class ≡ IdentifierName → is_free_name s.text ≡ true → 2 ≤ levels → e ≡ s → CommaOr text (codes "}") e → ValueGiven text computed a o levels s e
  a_default : {b : Bool} {n : Tree} {m : Token} {P : List Pair} → a ≡ as_pattern b → computed ≡ false → (behind_in text s).class ≡ IdentifierName → is_free_name s.text ≡ true → 3 ≤ levels → ReadsHere text Punctuator (codes "=") s m → suc (suc (height n)) ≤ levels →
      SpellsIn text o (expr Assignment true Any) n m e P → OfLanguage text n → CommaOr text (codes "}") e → ValueGiven text computed a o levels s e
