-- Given fields of classes: the word that a key is, which its token tells (ECMA-262, 13th edition, 15.7).
use Rattle.std.proofs.Common.{◌≡◌, ℕ, Bool, true, false, List, refl, sym, ap}
use Rattle.std.specs.Prelude.{Option, Some, None}
use Rattle.tokens.specs.declared.token.Token.{Token as Scanned}
use Rattle.tree.specs.declared.kind.Pair.{Pair}
use Rattle.tree.specs.Tree.{Tree}
use Rattle.language.specs.Edges.{key_goes_on}
use Rattle.language.specs.Statements.{key_word}
use Rattle.language.specs.Token.{Token}
use Rattle.language.proofs.covers.CoverProperties.{plain_key}
use Rattle.recursive_descent.specs.CompletenessOfProperties.{NamedAt, a_key, a_private, TokenIs}
use Rattle.recursive_descent.specs.Later.{field_word}
use Rattle.recursive_descent.proofs.sound_properties.FieldKeys.{key_by_token, private_by_token}
use Rattle.token_cursor.specs.SourceText.{SourceText}

module _ (text : SourceText) where
  -- the word that a given key is goes on as the token's does that was read
  pub word_told : (c : Bool) {i : Bool} {o : ℕ} {k : Tree} {s e : Token} {P : List Pair} → NamedAt text i o k s e P c → (got : Option Scanned) → (c ≡ false → TokenIs text got e) → (c ≡ true → got ≡ None) → (b : Bool) (u : Token) → key_goes_on (key_word c k) b u ≡ key_goes_on (field_word got) b u
  word_told true named got there free b u = ap (λ x. key_goes_on (field_word x) b u) (sym (free refl))
  word_told false named None there free b u = absurd (there refl)
  word_told false (a_key (plain_key d)) (Some t) there free b u = key_by_token text d t (there refl).1 b u
  word_told false (a_private j l d) (Some t) there free b u = private_by_token text d t (there refl).1 b u
