-- What begins a declaration of a module, and an expression behind `import`, by the tokens ahead (ECMA-262, 13th edition, 16.2).
use Rattle.std.proofs.Common.{◌≡◌, Bool, true, false, List, ℕ, refl, sym, ap, ◌∙◌, ◌⊎◌, inl, inr}
use Rattle.std.specs.Prelude.{codes, ◌&&◌, ◌||◌}
use Rattle.std.specs.Str.{bytes_eq}
use Rattle.tokens.specs.Tokens.{LexicalToken}
use Rattle.tokens.specs.declared.token.TokenClass.{TokenClass}
use Rattle.tokens.specs.declared.token.TokenClass.TheVariants.{IdentifierName, Punctuator}
use Rattle.tokens.specs.declared.token.Goal.TheVariants.{Div}
use Rattle.token_cursor.specs.CursorState.{IsAhead, NoneAhead}
use Rattle.token_cursor.specs.SourceText.{SourceText, SeenNext, unseen}
use Rattle.token_cursor.specs.Seen.{Sees, Misses, declares}
use Rattle.token_cursor.proofs.SeenTokens.{seen_determined}
use Rattle.token_cursor.proofs.TokensAhead.{sees, mark_missed, mark_none, ahead_read, ahead_next}
use Rattle.language.specs.Token.{Token, as_read, table_text, is_token, same_class}
use Rattle.recursive_descent.specs.ModuleItems.{begins_declaration, begins_default}

-- a name is read as it stands
name_declares : (c : TokenClass) (w : List ℕ) → (same_class IdentifierName c && declares (table_text c w)) ≡ (same_class IdentifierName c && declares w)
name_declares IdentifierName w = refl
name_declares _ w = refl

any_of : (a b f g : Bool) → ((a && b) ≡ true) ⊎ (((a && f) ≡ true) ⊎ ((a && g) ≡ true)) → (a && (b || (f || (g || false)))) ≡ true
any_of true true f g h = refl
any_of true false true g h = refl
any_of true false false true h = refl
any_of true false false false (inl h) = h
any_of true false false false (inr (inl h)) = h
any_of true false false false (inr (inr h)) = h
any_of false b f g (inl h) = h
any_of false b f g (inr (inl h)) = h
any_of false b f g (inr (inr h)) = h

none_of : (a b f g : Bool) → (a && b) ≡ false → (a && f) ≡ false → (a && g) ≡ false → (a && (b || (f || (g || false)))) ≡ false
none_of true false false false h k l = refl
none_of true true f g h k l = h
none_of true false true g h k l = k
none_of true false false true h k l = l
none_of false b f g h k l = refl

neither_of : (a f g : Bool) → (a && f) ≡ false → (a && g) ≡ false → (a && (f || (g || false))) ≡ false
neither_of true false false h k = refl
neither_of true true g h k = h
neither_of true false true h k = k
neither_of false f g h k = refl

module _ (u : LexicalToken) where
  abbrev Word : List ℕ → Bool
  Word w = is_token IdentifierName w (as_read u)

  pub declaration_begins : ((same_class IdentifierName u.class && declares u.text) ≡ true) ⊎ ((Word (codes "function") ≡ true) ⊎ (Word (codes "class") ≡ true)) → begins_declaration (as_read u) ≡ true
  declaration_begins (inl h) = any_of (same_class IdentifierName u.class) (declares (as_read u).text) (bytes_eq (as_read u).text (codes "function")) (bytes_eq (as_read u).text (codes "class")) (inl (name_declares u.class u.text ∙ h))
  declaration_begins (inr h) = any_of (same_class IdentifierName u.class) (declares (as_read u).text) (bytes_eq (as_read u).text (codes "function")) (bytes_eq (as_read u).text (codes "class")) (inr h)

  pub no_declaration : (same_class IdentifierName u.class && declares u.text) ≡ false → Word (codes "function") ≡ false → Word (codes "class") ≡ false → begins_declaration (as_read u) ≡ false
  no_declaration h k l = none_of (same_class IdentifierName u.class) (declares (as_read u).text) (bytes_eq (as_read u).text (codes "function")) (bytes_eq (as_read u).text (codes "class")) (name_declares u.class u.text ∙ h) k l

  pub no_default : Word (codes "function") ≡ false → Word (codes "class") ≡ false → begins_default (as_read u) ≡ false
  no_default h k = neither_of (same_class IdentifierName u.class) (bytes_eq (as_read u).text (codes "function")) (bytes_eq (as_read u).text (codes "class")) h k

  pub name_text : {w : List ℕ} → u.class ≡ IdentifierName → (as_read u).text ≡ w → u.text ≡ w
  name_text class is = sym (ap (λ c. table_text c u.text) class) ∙ is

-- what stands behind the token ahead
module _ (text : SourceText) (s : Token) (u : LexicalToken) (ahead : IsAhead Div text s.stop u) where
  ends_there : {m : Token} → SeenNext text s (as_read u) m → m ≡ unseen (as_read u)
  ends_there {m} n = let there = ahead_read text Div s u ahead in ((seen_determined text).same Div s (as_read u) (as_read u) m (unseen (as_read u)) n there.next there.allowed there.allowed).1

  abbrev pub ImportGoesOn : Type 0
  ImportGoesOn = (m : Token) × SeenNext text s (as_read u) m × (Sees text Punctuator (codes "(") m ⊎ Sees text Punctuator (codes ".") m)

  abbrev pub ImportStops : Type 0
  ImportStops = (m : Token) → SeenNext text s (as_read u) m → Misses text Punctuator (codes "(") m × Misses text Punctuator (codes ".") m

  module _ (v : LexicalToken) (second : IsAhead Div text u.stop v) where
    pub call_behind : is_token Punctuator (codes "(") (as_read v) ≡ true → ImportGoesOn
    call_behind h = (unseen (as_read u), ahead_next text Div s u ahead, inl (sees text Div Punctuator (codes "(") (unseen (as_read u)) v second h))

    pub dot_behind : is_token Punctuator (codes ".") (as_read v) ≡ true → ImportGoesOn
    dot_behind h = (unseen (as_read u), ahead_next text Div s u ahead, inr (sees text Div Punctuator (codes ".") (unseen (as_read u)) v second h))

    pub neither_behind : is_token Punctuator (codes "(") (as_read v) ≡ false → is_token Punctuator (codes ".") (as_read v) ≡ false → ImportStops
    neither_behind h k m n = rw (ends_there n) (mark_missed text (codes "(") (unseen (as_read u)) v second h, mark_missed text (codes ".") (unseen (as_read u)) v second k)

  pub nothing_behind : NoneAhead Div text u.stop → ImportStops
  nothing_behind nothing m n = rw (ends_there n) (mark_none text (codes "(") (unseen (as_read u)) nothing, mark_none text (codes ".") (unseen (as_read u)) nothing)
