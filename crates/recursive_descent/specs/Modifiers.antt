-- `static`, `get` and `set` before the name of a property (ECMA-262 14.3, 14.6), or as the name itself.
use Rattle.std.specs.Prelude.{◌≡◌, ℕ, Bool, true, false, not, ◌&&◌, ◌||◌, List, Option, Some, None, codes}
use Rattle.tokens.specs.declared.token.TokenClass.TheVariants.{IdentifierName, Punctuator}
use Rattle.tokens.specs.declared.token.Goal.TheVariants.{Div}
use Rattle.tokens.specs.declared.token.Token.{Token as Scanned}
use Rattle.tokens.specs.Scanned.{token_of}
use Rattle.tree.specs.declared.kind.Form.{Form}
use Rattle.tree.specs.declared.kind.Form.TheVariants.{Get, Set, Method, Generator, Async, AsyncGenerator}
use Rattle.language.specs.Languages.{is_of_2022}
use Rattle.language.specs.Token.{Token, as_read, is_mark}
use Rattle.language.specs.Vocabulary.{is}
use Rattle.token_cursor.specs.Seen.{ReadsHere, Misses, SeesBy, MissesBy}
use Rattle.parser_tables.specs.Tests.{begins_key}
use Rattle.token_cursor.specs.SourceText.{SourceText}

-- what a word before a name is followed by: a key, and `static` also by the `*` of a generator (15.5 of the 13th edition)
abbrev pub follows : SourceText → List ℕ → Token → Bool
follows text w t = begins_key t || (is_of_2022 text.language && (is w "static" && is_mark (codes "*") t))

-- what `async` before a name is followed by, on its line: a key, or `*` (15.6 and 15.8 of the 13th edition)
abbrev pub follows_async : Token → Bool
follows_async t = not t.after_break && (begins_key t || is_mark (codes "*") t)

-- the word is read, and what it modifies begins behind it
pub record Modifies (text : SourceText) (w : List ℕ) (s e : Token) : Type 0 where
  pub read : ReadsHere text IdentifierName w s e
  pub key : SeesBy text Div (follows text w) e

-- the word is read, and nothing begins behind it that it modifies: it is the name itself
pub record Named (text : SourceText) (w : List ℕ) (s e : Token) (name : Scanned) : Type 0 where
  pub read : ReadsHere text IdentifierName w s e
  pub none : MissesBy text Div (follows text w) e
  pub is : e ≡ as_read (token_of name)

-- what a word before a name gives: nothing where it isn't read, and the token where that is the name itself
abbrev pub Modified : SourceText → List ℕ → Token → Token → Option (Option Scanned) → Type 0
Modified text w s e None = Misses text IdentifierName w s × (e ≡ s)
Modified text w s e (Some None) = Modifies text w s e
Modified text w s e (Some (Some name)) = Named text w s e name

-- where the word is the name, it modifies nothing
abbrev pub form_with : Option Scanned → Form → Form
form_with None form = form
form_with (Some name) form = Method

-- `async` and `*` before a name, `async` as the name, or neither
pub data MethodWords (text : SourceText) (s e : Token) : Form → Option Scanned → Type 0 where
  no_words : (is_of_2022 text.language ≡ true → Misses text IdentifierName (codes "async") s × Misses text Punctuator (codes "*") s) → e ≡ s → MethodWords text s e Method None
  a_star : is_of_2022 text.language ≡ true → ReadsHere text Punctuator (codes "*") s e → MethodWords text s e Generator None
  async_word : is_of_2022 text.language ≡ true → ReadsHere text IdentifierName (codes "async") s e → SeesBy text Div follows_async e → Misses text Punctuator (codes "*") e → MethodWords text s e Async None
  async_star : {m : Token} → is_of_2022 text.language ≡ true → ReadsHere text IdentifierName (codes "async") s m → SeesBy text Div follows_async m → ReadsHere text Punctuator (codes "*") m e → MethodWords text s e AsyncGenerator None
  async_named : {name : Scanned} → is_of_2022 text.language ≡ true → ReadsHere text IdentifierName (codes "async") s e → MissesBy text Div follows_async e → e ≡ as_read (token_of name) → MethodWords text s e Method (Some name)

-- `get` or `set` before a name, or as the name, or neither
pub data Accessed (text : SourceText) (s e : Token) : Form → Option Scanned → Type 0 where
  gets : Modifies text (codes "get") s e → Accessed text s e Get None
  sets : Modifies text (codes "set") s e → Accessed text s e Set None
  get_named : {name : Scanned} → Named text (codes "get") s e name → Accessed text s e Method (Some name)
  set_named : {name : Scanned} → Named text (codes "set") s e name → Accessed text s e Method (Some name)
  neither : {form : Form} {name : Option Scanned} → Misses text IdentifierName (codes "get") s → Misses text IdentifierName (codes "set") s → MethodWords text s e form name → Accessed text s e form name

-- `static` before that, in a class
pub data Modifying (text : SourceText) (s e : Token) : (in_class is_static : Bool) → Form → Option Scanned → Type 0 where
  in_object : {form : Form} {name : Option Scanned} → Accessed text s e form name → Modifying text s e false false form name
  not_static : {form : Form} {name : Option Scanned} → Misses text IdentifierName (codes "static") s → Accessed text s e form name → Modifying text s e true false form name
  static_named : {name : Scanned} → Named text (codes "static") s e name → Modifying text s e true false Method (Some name)
  static : {form : Form} {name : Option Scanned} {m : Token} → Modifies text (codes "static") s m → Accessed text m e form name → Modifying text s e true true form name
