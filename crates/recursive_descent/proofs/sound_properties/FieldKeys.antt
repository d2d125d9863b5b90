-- The word that a field's key is, which its token tells: where the field may end without a `;` goes by it (ECMA-262, 13th edition, 15.7).
use Rattle.std.proofs.Common.{◌≡◌, ℕ, Bool, true, false, cond, List, [], ◌∷◌, refl, sym, ap, ◌∙◌, subst}
use Rattle.std.specs.Prelude.{IsTrue, Some, codes, not, ◌&&◌, ◌||◌}
use Rattle.std.proofs.lemmas.Bool.{false≢true}
use Rattle.std.proofs.lemmas.Slice.Eq.{bytes_eq-Decides}
use Rattle.tokens.specs.Scanned.{token_of}
use Rattle.tokens.specs.declared.token.Token.{Token as Scanned}
use Rattle.tokens.specs.declared.token.TokenClass.{TokenClass}
use Rattle.tokens.specs.declared.token.TokenClass.TheVariants.{IdentifierName, NumericLiteral, StringLiteral, Keyword, PrivateName}
use Rattle.tree.specs.declared.kind.Pair.{Pair}
use Rattle.tree.specs.Tree.{Tree, node, Parts, part, gap, none, kind_of, text_of}
use Rattle.language.specs.Vocabulary.{is_keyword}
use Rattle.language.specs.Edges.{is_end, is_sign, is_semicolon, key_goes_on}
use Rattle.language.specs.Vocabulary.{is}
use Rattle.language.specs.Pieces.{key, private_name, ending, behind_key, absent}
use Rattle.language.specs.Statements.{key_word}
use Rattle.language.specs.Token.{Token, as_read, same_class, table_text}
use Rattle.language.specs.Derivation.{Step, explicit, implicit, done, step, missing}
use Rattle.language.proofs.climbing.Leaves.{private_form}
use Rattle.language.proofs.list_loops.FirstPieces.{run_never, run_absent}
use Rattle.language.proofs.list_loops.PiecesSoFar.{run_end}
use Rattle.language.proofs.table.PropertyNameWays.{is_key_class, key_kind, key_form}
use Rattle.token_cursor.proofs.SeenTokens.{seen_determined}
use Rattle.recursive_descent.specs.Later.{field_word, field_pieces}
use Rattle.recursive_descent.specs.Soundness.{RunsIn, anywhere}
use Rattle.recursive_descent.specs.Spelled.{SpellsIn}
use Rattle.recursive_descent.proofs.reading.SeenNames.{keyword_told}
use Rattle.token_cursor.specs.SourceText.{SourceText, SeenNext, behind_in}

first_alone : (b : Bool) → (b || false) ≡ true → b ≡ true
first_alone true h = refl
first_alone false h = h

-- a keyword is none of the words that go on
keyword_goes : (w : List ℕ) (b : Bool) (t : Token) → is_keyword w ≡ true → key_goes_on w b t ≡ key_goes_on [] b t
unfolding is_keyword
keyword_goes w b t h = ap (λ v. key_goes_on v b t) ((bytes_eq-Decides w (codes "await")).0 (first_alone _ h))

module _ (text : SourceText) where
  -- the word that a key of one token is goes on as the token's does
  key_told : {k : Tree} (c : TokenClass) (w : List ℕ) (t : Scanned) {st en : ℕ} → is_key_class c ≡ true → (c ≡ Keyword → is_keyword w ≡ true) → k ≡ node (key_kind c) w Rattle.tree.specs.Tree.plain st en none → t.class ≡ c → (c ≡ IdentifierName → t.text.now ≡ w) →
      (b : Bool) (u : Token) → key_goes_on (key_word false k) b u ≡ key_goes_on (field_word (Some t)) b u
  key_told {k} IdentifierName w t h l tree class told b u = ap (λ n. key_goes_on (key_word false n) b u) tree ∙ ap (λ v. key_goes_on v b u) (sym (told refl)) ∙ ap (λ c. key_goes_on (cond (same_class IdentifierName c) t.text.now []) b u) (sym class)
  key_told {k} Keyword w t h l tree class told b u = ap (λ n. key_goes_on (key_word false n) b u) tree ∙ keyword_goes w b u (l refl) ∙ ap (λ c. key_goes_on (cond (same_class IdentifierName c) t.text.now []) b u) (sym class)
  key_told {k} NumericLiteral w t h l tree class told b u = ap (λ n. key_goes_on (key_word false n) b u) tree ∙ ap (λ c. key_goes_on (cond (same_class IdentifierName c) t.text.now []) b u) (sym class)
  key_told {k} StringLiteral w t h l tree class told b u = ap (λ n. key_goes_on (key_word false n) b u) tree ∙ ap (λ c. key_goes_on (cond (same_class IdentifierName c) t.text.now []) b u) (sym class)
  key_told _ w t h l tree class told b u = absurd (false≢true h)

  -- the key that a token is
  pub key_by_token : {o : ℕ} {k : Tree} {s e : Token} {P : List Pair} (d : SpellsIn text o key k s e P) (t : Scanned) → behind_in text e ≡ as_read (token_of t) → (b : Bool) (u : Token) → key_goes_on (key_word false k) b u ≡ key_goes_on (field_word (Some t)) b u
  key_by_token {s = s} {e = e} d t shown =
      let v = key_form Token (SeenNext text) (behind_in text) (seen_determined text) d in
      let sign : v.leaf.sign ≡ as_read (token_of t) = sym ((seen_determined text).last s v.leaf.sign e v.leaf.reads.next) ∙ shown in
      let class : t.class ≡ v.class = sym (ap (λ (x : Token). x.class) sign) ∙ v.leaf.reads.class in
      key_told v.class v.leaf.text t v.is_key (λ h. subst (λ w. is_keyword w ≡ true) v.leaf.reads.text (keyword_told v.leaf.reads.next (v.leaf.reads.class ∙ h))) v.leaf.tree class
      (λ h. sym (ap (λ c. table_text c t.text.now) (class ∙ h)) ∙ sym (ap (λ (x : Token). x.text) sign) ∙ v.leaf.reads.text)

  pub private_by_token : {o : ℕ} {k : Tree} {s e : Token} {P : List Pair} (d : SpellsIn text o private_name k s e P) (t : Scanned) → behind_in text e ≡ as_read (token_of t) → (b : Bool) (u : Token) → key_goes_on (key_word false k) b u ≡ key_goes_on (field_word (Some t)) b u
  private_by_token {s = s} {e = e} d t shown b u =
      let v = private_form Token (SeenNext text) (behind_in text) (seen_determined text) d in
      let class : t.class ≡ PrivateName = sym (ap (λ (x : Token). x.class) (sym ((seen_determined text).last s v.sign e v.reads.next) ∙ shown)) ∙ v.reads.class in
      ap (λ n. key_goes_on (key_word false n) b u) v.tree ∙ ap (λ c. key_goes_on (cond (same_class IdentifierName c) t.text.now []) b u) (sym class)

  -- so a field of such a key ends where one of the other does
  pub key_end : {v w : List ℕ} {b c : Bool} {s e : Token} → ((t : Token) → key_goes_on v b t ≡ key_goes_on w c t) → Step Token (SeenNext text) (behind_in text) (ending (behind_key v b)) s e → Step Token (SeenNext text) (behind_in text) (ending (behind_key w c)) s e
  key_end same (explicit r) = explicit r
  key_end same (implicit {t = t} nx may) = implicit nx (subst (λ x. IsTrue (not (is_semicolon t) && ((is_end t || (is_sign t && is t.text "}")) || (t.after_break && not x)))) (same t) may)

  pub field_moved : (v w : List ℕ) (b c : Bool) {o : ℕ} → ((t : Token) → key_goes_on v b t ≡ key_goes_on w c t) → (value : Parts) {s e : Token} {P : List Pair} → RunsIn text o (anywhere (field_pieces v b value)) value s e P → RunsIn text o (anywhere (field_pieces w c value)) value s e P
  field_moved v w b c same (gap none) d =
      let u = run_absent Token (SeenNext text) (behind_in text) d in
      ended u.runs (sym u.parts)
    where
      ended : {o : ℕ} {qs : Parts} {s e : Token} {P : List Pair} → RunsIn text o (anywhere (ending (behind_key v b) ∷ [])) qs s e P → gap qs ≡ gap none → RunsIn text o (anywhere (absent ∷ ending (behind_key w c) ∷ [])) (gap none) s e P
      ended {o} {s = s} {e} {P} d is =
          let z = run_end Token (SeenNext text) (behind_in text) (seen_determined text) d in
          subst (λ Q. RunsIn text o (anywhere (absent ∷ ending (behind_key w c) ∷ [])) (gap none) s e Q) (sym z.pairs) (missing (step (key_end same z.ends) done))
  field_moved v w b c same (part n none) d = d
  field_moved v w b c same none d = absurd (run_never Token (SeenNext text) (behind_in text) d)
  field_moved v w b c same (gap (gap ps)) d = absurd (run_never Token (SeenNext text) (behind_in text) d)
  field_moved v w b c same (gap (part n ps)) d = absurd (run_never Token (SeenNext text) (behind_in text) d)
  field_moved v w b c same (part n (gap ps)) d = absurd (run_never Token (SeenNext text) (behind_in text) d)
  field_moved v w b c same (part n (part m ps)) d = absurd (run_never Token (SeenNext text) (behind_in text) d)
