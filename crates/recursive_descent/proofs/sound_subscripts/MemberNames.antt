-- The name behind a dot by its token: any name, and a private one in the languages of 2022 (ECMA-262, 13th edition, 13.3).
use Rattle.std.proofs.Common.{◌≡◌, ℕ, Bool, true, false, [], ◌++◌, drop, ◌⊎◌, inl, inr, refl, sym, ap, ◌∙◌, subst}
use Rattle.std.specs.Prelude.{codes, ◌||◌, ◌&&◌}
use Rattle.std.proofs.lemmas.Bool.{false≢true}
use Rattle.tokens.specs.Tokens.{LexicalToken}
use Rattle.tokens.specs.declared.token.TokenClass.{TokenClass}
use Rattle.tokens.specs.declared.token.TokenClass.TheVariants.{IdentifierName, PrivateName, Keyword, Template, Punctuator}
use Rattle.tokens.specs.declared.token.Goal.TheVariants.{Div}
use Rattle.token_cursor.specs.CursorState.{CursorState, IsAhead, NoneAhead}
use Rattle.tree.specs.declared.kind.Kind.TheVariants.{PrivateIdentifier}
use Rattle.tree.specs.Tree.{node, none, plain, kind_of}
use Rattle.language.specs.declared.Language.TheVariants.{Base}
use Rattle.language.specs.Languages.{is_of_2022}
use Rattle.language.specs.Later.{has_later}
use Rattle.language.specs.Pieces.{private_name}
use Rattle.language.specs.Token.{Token, as_read, same_class, is_token}
use Rattle.language.specs.Derivation.{done, within}
use Rattle.language.specs.Promises.{ReadBy, is_free}
use Rattle.language.proofs.climbing.Leaves.{private_found}
use Rattle.language.proofs.table.LeftRecursiveWays.{property_role}
use Rattle.token_cursor.specs.SourceText.{SourceText, SeenNext, behind_in, unseen}
use Rattle.token_cursor.specs.Seen.{ReadsHere, is_word_class}
use Rattle.token_cursor.proofs.SeenTokens.{seen_determined}
use Rattle.token_cursor.proofs.TokensAhead.{same_ahead, none_ahead, ahead_read, ahead_next, mark_by, seen, class_of}
use Rattle.parser_tables.specs.Tokens.{single_node, key_node, key_node_by, without_hash}
use Rattle.recursive_descent.specs.Spelled.{SpellsIn, OfLanguage}
use Rattle.recursive_descent.specs.Later.{MemberNameAt, NoMemberName, is_member_name}
use Rattle.recursive_descent.proofs.reading.SeenNames.{private_told}
use Rattle.recursive_descent.proofs.sound_modules.ModuleNames.{word_spelled}
use Rattle.recursive_descent.proofs.sound_subscripts.SubscriptReads.{no_template_text}

module _ (text : SourceText) where
  -- a private name
  pub private_spelled : {o : ℕ} {s e : Token} (t : LexicalToken) → SeenNext text s (as_read t) e → t.class ≡ PrivateName → SpellsIn text o private_name (single_node PrivateIdentifier t) s e []
  private_spelled {o} {s} {e} t next h =
      let same : (as_read t).text ≡ t.text = no_template_text t.class t.text (ap (same_class Template) h) in
      let told : t.text ≡ codes "#" ++ drop 1 t.text = subst (λ w. w ≡ codes "#" ++ drop 1 w) same (private_told next h) in
      let stop : t.stop ≡ e.stop = sym (ap (λ (x : Token). x.stop) ((seen_determined text).last s (as_read t) e next)) in
      subst (λ x. SpellsIn text o private_name (node PrivateIdentifier (without_hash t.text) plain t.start x none) s e []) (sym stop)
      (subst (λ v. SpellsIn text o private_name (node PrivateIdentifier v plain t.start e.stop none) s e []) (sym (ap without_hash told))
      (private_found Token (SeenNext text) (behind_in text) (seen_determined text) {o = o} {w = drop 1 t.text} (record { next = next; class = h; text = same ∙ told })).spelled)

  name_spelled : {o : ℕ} {s e : Token} (t : LexicalToken) → SeenNext text s (as_read t) e → is_member_name text t.class ≡ true → SpellsIn text o (property_role (kind_of (key_node t))) (key_node t) s e []
  name_spelled {o} {s} {e} t next h = of t.class refl h
    where
      of : (c : TokenClass) → t.class ≡ c → is_member_name text c ≡ true → SpellsIn text o (property_role (kind_of (key_node_by c t))) (key_node_by c t) s e []
      of IdentifierName k h = word_spelled text t next (ap is_word_class k)
      of Keyword k h = word_spelled text t next (ap is_word_class k)
      of PrivateName k h = private_spelled t next k
      of _ k h = absurd (false≢true h)

  -- it is of the language
  pub member_own : (t : LexicalToken) → is_member_name text t.class ≡ true → OfLanguage text (key_node t)
  unfolding has_later
  member_own t h = record { none_later = λ b. of t.class h b }
    where
      of : (c : TokenClass) → is_member_name text c ≡ true → text.language ≡ Base → has_later (key_node_by c t) ≡ false
      of IdentifierName h b = refl
      of Keyword h b = refl
      of PrivateName h b = absurd (false≢true (sym (ap is_of_2022 b) ∙ h))
      of _ h b = absurd (false≢true h)

  -- a token that is none
  free : (c : TokenClass) → is_member_name text c ≡ true → is_free c ≡ true
  free IdentifierName h = refl
  free Keyword h = refl
  free PrivateName h = refl
  free _ h = absurd (false≢true h)

  read_by : {s t e : Token} → SeenNext text s t e → is_member_name text t.class ≡ true → ReadBy Token (SeenNext text) (behind_in text) Div s t e
  read_by {s} {t} {e} n h = record { next = n; allowed = (seen_determined text).free Div s t e n (free t.class h) }

-- the token is passed
pub member_read : (s e : CursorState) (t : LexicalToken) → SeenNext s.text s.last (as_read t) e.last → is_member_name s.text t.class ≡ true → MemberNameAt s e (key_node t)
member_read s e t next h o = within (name_spelled s.text t next h) done

-- another stands there, or none
pub no_member : (s : CursorState) (u : LexicalToken) → IsAhead Div s.text s.last.stop u → is_member_name s.text u.class ≡ false → NoMemberName s
no_member s u a h t e n = by (is_member_name s.text t.class) refl
  where
    by : (b : Bool) → is_member_name s.text t.class ≡ b → is_member_name s.text t.class ≡ false
    by false k = k
    by true k = ap (λ (x : Token). is_member_name s.text x.class) (same_ahead s.text Div s.last u a t e (read_by s.text n k)) ∙ h

pub other_class : (text : SourceText) (c : TokenClass) → (c ≡ IdentifierName → ⊥) → (c ≡ Keyword → ⊥) → (c ≡ PrivateName → ⊥) → is_member_name text c ≡ false
other_class text IdentifierName a b d = absurd (a refl)
other_class text Keyword a b d = absurd (b refl)
other_class text PrivateName a b d = absurd (d refl)
other_class text _ a b d = refl

-- any name is one
pub word_class : (text : SourceText) (c : TokenClass) → (c ≡ IdentifierName) ⊎ (c ≡ Keyword) → is_member_name text c ≡ true
word_class text c (inl h) = ap (is_member_name text) h
word_class text c (inr h) = ap (is_member_name text) h

pub names_member : (c : TokenClass) → ((c ≡ IdentifierName) ⊎ (c ≡ Keyword)) ⊎ (c ≡ PrivateName) → (is_word_class c || same_class PrivateName c) ≡ true
names_member c (inl (inl h)) = ap (λ x. is_word_class x || same_class PrivateName x) h
names_member c (inl (inr h)) = ap (λ x. is_word_class x || same_class PrivateName x) h
names_member c (inr h) = ap (λ x. is_word_class x || same_class PrivateName x) h

-- the token behind a `.`, and that it is no private name
module _ (text : SourceText) (s : Token) (u : LexicalToken) (ahead : IsAhead Div text s.stop u) where
  dot_ends : {m : Token} → ReadsHere text Punctuator (codes ".") s m → m ≡ unseen (as_read u)
  dot_ends {m} r =
      let there = ahead_read text Div s u ahead in
      ((seen_determined text).same Div s (behind_in text m) (as_read u) m (unseen (as_read u)) r.next there.next (mark_by text r).allowed there.allowed).1

  private_by : {t m e : Token} → SeenNext text m t e → same_class PrivateName t.class ≡ true → ReadBy Token (SeenNext text) (behind_in text) Div m t e
  private_by {t} {m} {e} n h = record { next = n; allowed = (seen_determined text).free Div m t e n (freed t.class h) }
    where
      freed : (c : TokenClass) → same_class PrivateName c ≡ true → is_free c ≡ true
      freed PrivateName h = refl
      freed _ h = absurd (false≢true h)

  pub no_private_behind : (v : LexicalToken) → IsAhead Div text u.stop v → same_class PrivateName v.class ≡ false → (t m e : Token) → ReadsHere text Punctuator (codes ".") s m → SeenNext text m t e → same_class PrivateName t.class ≡ false
  no_private_behind v second h t m e r n = by (same_class PrivateName t.class) refl
    where
      by : (b : Bool) → same_class PrivateName t.class ≡ b → same_class PrivateName t.class ≡ false
      by false k = k
      by true k =
          let read = subst (λ x. ReadBy Token (SeenNext text) (behind_in text) Div x t e) (dot_ends r) (private_by n k) in
          ap (λ (x : Token). same_class PrivateName x.class) (same_ahead text Div (unseen (as_read u)) v second t e read) ∙ h

  pub nothing_behind : NoneAhead Div text u.stop → (t m e : Token) → ReadsHere text Punctuator (codes ".") s m → SeenNext text m t e → same_class PrivateName t.class ≡ false
  nothing_behind nothing t m e r n = by (same_class PrivateName t.class) refl
    where
      by : (b : Bool) → same_class PrivateName t.class ≡ b → same_class PrivateName t.class ≡ false
      by false k = k
      by true k = absurd (none_ahead text Div (unseen (as_read u)) nothing t e (subst (λ x. ReadBy Token (SeenNext text) (behind_in text) Div x t e) (dot_ends r) (private_by n k)))

  pub private_behind : (v : LexicalToken) → IsAhead Div text u.stop v → is_token Punctuator (codes ".") (as_read u) ≡ true → same_class PrivateName v.class ≡ true → (t : Token) × (m : Token) × (e : Token) × ReadsHere text Punctuator (codes ".") s m × SeenNext text m t e × (t.class ≡ PrivateName)
  private_behind v second dot h =
      (as_read v, unseen (as_read u), unseen (as_read v), seen text Div Punctuator (codes ".") s u ahead dot, ahead_next text Div (unseen (as_read u)) v second, (class_of text PrivateName v.class true (ap (λ b. b && true) h)).0)
