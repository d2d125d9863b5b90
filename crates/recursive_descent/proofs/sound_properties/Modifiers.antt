-- What stands before the name of a property.
use Rattle.std.proofs.Common.{◌≡◌, ℕ, Bool, true, false, List, Option, Some, None, ◌∙◌, subst, codes, refl}
use Rattle.tokens.specs.declared.token.TokenClass.TheVariants.{IdentifierName}
use Rattle.tokens.specs.declared.token.Token.{Token as Scanned}
use Rattle.tree.specs.declared.kind.Form.{Form}
use Rattle.tree.specs.declared.kind.Form.TheVariants.{Get, Set, Method}
use Rattle.language.specs.Token.{Token, as_read, is_token, same_class}
use Rattle.token_cursor.specs.Seen.{Misses, SeesBy, MissesBy}
use Rattle.token_cursor.proofs.TokensAhead.{seen}
use Rattle.token_cursor.specs.CursorState.{IsAhead}
use Rattle.tokens.specs.Scanned.{token_of}
use Rattle.tokens.specs.Tokens.{LexicalToken}
use Rattle.tokens.specs.declared.token.Goal.TheVariants.{Div}
use Rattle.recursive_descent.specs.Modifiers.{Modifies, Named, Modified, form_with, Accessed, gets, sets, get_named, set_named, neither, Modifying, in_object, not_static, static_named, static, follows, MethodWords}
use Rattle.token_cursor.specs.SourceText.{SourceText, unseen}
use Rattle.std.specs.Str.{bytes_eq}
use Rattle.std.proofs.lemmas.Bool.{and_parts, false≢true}
use Rattle.tokens.specs.declared.token.TokenClass.{TokenClass}

-- the word stands ahead, and behind it a key begins, or none
pub modifies_ahead : (text behind : SourceText) (w : List ℕ) (s e : Token) (u : LexicalToken) → IsAhead Div text s.stop u → is_token IdentifierName w (as_read u) ≡ true → e ≡ unseen (as_read u) → behind ≡ text → SeesBy behind Div (follows behind w) e → Modifies text w s e
modifies_ahead text behind w s e u a h p q k =
    record { read = rw p (seen text Div IdentifierName w s u a h); key = subst (λ x. SeesBy x Div (follows x w) e) q k }

-- a name is no keyword, so that the place is the token
pub place_is : (u : LexicalToken) (w : List ℕ) → is_token IdentifierName w (as_read u) ≡ true → unseen (as_read u) ≡ as_read u
place_is u w h = of u.class (and_parts (same_class IdentifierName u.class) (bytes_eq (as_read u).text w) h).0
  where
    of : (c : TokenClass) → same_class IdentifierName c ≡ true → unseen (record (as_read u) { class = c }) ≡ record (as_read u) { class = c }
    of IdentifierName k = refl
    of _ k = absurd (false≢true k)

pub named_ahead : (text behind : SourceText) (w : List ℕ) (s e : Token) (name : Scanned) → IsAhead Div text s.stop (token_of name) → is_token IdentifierName w (as_read (token_of name)) ≡ true → e ≡ unseen (as_read (token_of name)) → behind ≡ text → MissesBy behind Div (follows behind w) e → Named text w s e name
named_ahead text behind w s e name a h p q k =
    record { read = rw p (seen text Div IdentifierName w s (token_of name) a h); none = subst (λ x. MissesBy x Div (follows x w) e) q k; is = p ∙ place_is (token_of name) w h }

-- what a word gave, by cases
pub modifies_by : (text : SourceText) (w : List ℕ) (s e : Token) (got : Option Scanned) → got ≡ None → Modified text w s e (Some got) → Modifies text w s e
modifies_by text w s e got q h = subst (λ x. Modified text w s e (Some x)) q h

pub named_by : (text : SourceText) (w : List ℕ) (s e : Token) (got : Option Scanned) (name : Scanned) → got ≡ Some name → Modified text w s e (Some got) → Named text w s e name
named_by text w s e got name q h = subst (λ x. Modified text w s e (Some x)) q h

module _ (text : SourceText) (s e : Token) where
  pub get_accessed : (name got : Option Scanned) (form : Form) → form ≡ form_with name Get → got ≡ name → Modified text (codes "get") s e (Some name) → Accessed text s e form got
  get_accessed None got form p q h = rw (p, q) (gets h)
  get_accessed (Some name) got form p q h = rw (p, q) (get_named h)

  pub set_accessed : (name got : Option Scanned) (form : Form) → form ≡ form_with name Set → got ≡ name → Modified text (codes "set") s e (Some name) → Accessed text s e form got
  set_accessed None got form p q h = rw (p, q) (sets h)
  set_accessed (Some name) got form p q h = rw (p, q) (set_named h)

-- behind a word that wasn't there
module _ (text behind : SourceText) (s m e : Token) (same : behind ≡ text) where
  moved : {form : Form} {got : Option Scanned} → m ≡ s → Accessed behind m e form got → Accessed text s e form got
  moved {form} {got} q h = subst (λ x. Accessed x s e form got) same (subst (λ y. Accessed behind y e form got) q h)

  pub set_behind : (name got : Option Scanned) (form : Form) → m ≡ s → form ≡ form_with name Set → got ≡ name → Modified behind (codes "set") m e (Some name) → Accessed text s e form got
  set_behind name got form q f g h = moved q (set_accessed behind m e name got form f g h)

  pub neither_behind : (got : Option Scanned) (form : Form) → m ≡ s → MethodWords behind m e form got → Misses text IdentifierName (codes "get") s → Misses behind IdentifierName (codes "set") m → Accessed text s e form got
  neither_behind got form q h g k =
      neither g (subst (λ x. Misses x IdentifierName (codes "set") s) same (subst (λ y. Misses behind IdentifierName (codes "set") y) q k)) (subst (λ x. MethodWords x s e form got) same (subst (λ y. MethodWords behind y e form got) q h))

  pub not_static_behind : (in_class is_static : Bool) (form : Form) (got : Option Scanned) → m ≡ s → in_class ≡ true → is_static ≡ false → Misses text IdentifierName (codes "static") s → Accessed behind m e form got → Modifying text s e in_class is_static form got
  not_static_behind in_class is_static form got q a b h k = rw (a, b) (not_static h (moved q k))

  pub static_behind : (in_class is_static : Bool) (form : Form) (got : Option Scanned) → in_class ≡ true → is_static ≡ true → Modifies text (codes "static") s m → Accessed behind m e form got → Modifying text s e in_class is_static form got
  static_behind in_class is_static form got a b h k = rw (a, b) (static h (subst (λ x. Accessed x m e form got) same k))

module _ (text : SourceText) (s e : Token) where
  pub object_modifying : (in_class is_static : Bool) (form : Form) (got : Option Scanned) → in_class ≡ false → is_static ≡ false → Accessed text s e form got → Modifying text s e in_class is_static form got
  object_modifying in_class is_static form got a b h = rw (a, b) (in_object h)

  pub named_modifying : (in_class is_static : Bool) (form : Form) (got : Option Scanned) (name : Scanned) → in_class ≡ true → is_static ≡ false → form ≡ Method → got ≡ Some name → Named text (codes "static") s e name → Modifying text s e in_class is_static form got
  named_modifying in_class is_static form got name a b f g h = rw (a, b, f, g) (static_named h)
