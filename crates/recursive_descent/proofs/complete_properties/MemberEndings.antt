-- Which members are of which language, and what may follow a member of a class: a field whose key is a word that modifies isn't followed by what it would
-- modify (ECMA-262, 13th edition, 15.7).
use Rattle.std.proofs.Common.{◌≡◌, ◌⊎◌, inl, inr, ℕ, Bool, true, false, cond, List, [], ◌∷◌, refl, sym, ap, ◌∙◌, subst}
use Rattle.std.specs.Prelude.{IsTrue, codes, not, ◌&&◌, ◌||◌}
use Rattle.std.proofs.lemmas.Bool.{false≢true}
use Rattle.std.proofs.lemmas.Slice.Eq.{bytes_eq-Decides}
use Rattle.tokens.specs.declared.token.TokenClass.{TokenClass}
use Rattle.tokens.specs.declared.token.TokenClass.TheVariants.{IdentifierName, NumericLiteral, StringLiteral, Punctuator, Keyword, PrivateName}
use Rattle.tokens.specs.declared.token.TokenClass.TheVariants as class
use Rattle.tokens.specs.declared.token.Goal.{Goal}
use Rattle.tokens.specs.declared.token.Goal.TheVariants.{Div}
use Rattle.tokens.specs.Goals.{allows}
use Rattle.tree.specs.declared.kind.Form.{Form}
use Rattle.tree.specs.declared.kind.Form.TheVariants.{Generator, Async, AsyncGenerator}
use Rattle.tree.specs.declared.kind.Pair.{Pair}
use Rattle.tree.specs.Tree.{Tree, plain, kind_of, text_of}
use Rattle.language.specs.declared.Language.{Language}
use Rattle.language.specs.declared.Language.TheVariants.{Base, Script, Module}
use Rattle.language.specs.Later.{is_later_form}
use Rattle.language.specs.Languages.{is_of_2022}
use Rattle.language.specs.Vocabulary.{is, among, is_identifier}
use Rattle.language.specs.Edges.{is_sign, begins_key}
use Rattle.language.specs.Pieces.{method, private_name, ending, behind_key}
use Rattle.language.specs.Promises.{is_free, ReadBy}
use Rattle.language.specs.Statements.{key_word}
use Rattle.language.specs.Token.{Token, is_mark}
use Rattle.language.specs.Derivation.{Reads, Step}
use Rattle.language.proofs.climbing.Leaves.{private_form}
use Rattle.language.proofs.statements.Blocks.{one_method}
use Rattle.language.proofs.table.OneKind.{one_kind}
use Rattle.language.proofs.table.SoleWays.{Anyhow}
use Rattle.token_cursor.proofs.SeenTokens.{seen_determined}
use Rattle.unambiguity_laws.proofs.list_items.MemberEnds.{token_as, begins_member, MemberEnds, Ahead, Behind, goes_on, on_line, bracket_allowed, star_allowed, no_field_ends}
use Rattle.recursive_descent.specs.CompletenessOfLists.{DefinitionEnds}
use Rattle.recursive_descent.specs.CompletenessOfProperties.{names_more}
use Rattle.recursive_descent.specs.Modifiers.{follows, follows_async}
use Rattle.recursive_descent.specs.Spelled.{SpellsIn, OfLanguage}
use Rattle.recursive_descent.proofs.reading.LanguageTrees.{kind_of_language}
use Rattle.token_cursor.proofs.TokensAhead.{mark_by}
use Rattle.token_cursor.specs.Seen.{MissesBy}
use Rattle.token_cursor.specs.SourceText.{SourceText, SeenNext, behind_in}

-- a language with later trees
pub of_2022 : (l : Language) → (l ≡ Base → ⊥) → is_of_2022 l ≡ true
of_2022 Base h = absurd (h refl)
of_2022 Script h = refl
of_2022 Module h = refl

form_told : (f : Form) → is_later_form f ≡ true → is_later_form (Rattle.language.proofs.statements.Blocks.function_of f) ≡ true
form_told Generator h = refl
form_told Async h = refl
form_told AsyncGenerator h = refl
form_told _ h = absurd (false≢true h)

module _ (text : SourceText) where
  -- a generator's or an async method's function
  pub function_language : (f : Form) {o : ℕ} {n : Tree} {s e : Token} {P : List Pair} → SpellsIn text o (method f) n s e P → OfLanguage text n → is_later_form f ≡ true → is_of_2022 text.language ≡ true
  function_language f d own h =
      let w = (one_kind Token (SeenNext text) (behind_in text) (seen_determined text) {Fine = Anyhow} (one_method f)).told d tt in
      of_2022 text.language (λ b. false≢true (sym (kind_of_language (subst (λ z. OfLanguage text z) w.tree own) b) ∙ form_told f h))

  -- a private key
  pub private_language : {o : ℕ} {n : Tree} {s e : Token} {P : List Pair} → SpellsIn text o private_name n s e P → OfLanguage text n → is_of_2022 text.language ≡ true
  private_language d own =
      let w = private_form Token (SeenNext text) (behind_in text) (seen_determined text) d in
      of_2022 text.language (λ b. false≢true (sym (kind_of_language (subst (λ z. OfLanguage text z) w.tree own) b)))

-- the tokens that begin a member are read by each goal
sign_begun : (g : Goal) (w : List ℕ) → (is w "[" || is w "*") ≡ true → IsTrue (allows g Punctuator w)
sign_begun g w h = of (is w "[") (is w "*") refl refl h
  where
    of : (a b : Bool) → is w "[" ≡ a → is w "*" ≡ b → (a || b) ≡ true → IsTrue (allows g Punctuator w)
    of true b p q k = subst (λ v. IsTrue (allows g Punctuator v)) (sym ((bytes_eq-Decides w (codes "[")).0 p)) (bracket_allowed g)
    of false true p q k = subst (λ v. IsTrue (allows g Punctuator v)) (sym ((bytes_eq-Decides w (codes "*")).0 q)) (star_allowed g)
    of false false p q k = absurd (false≢true k)

free_or_sign : (c : TokenClass) (w : List ℕ) → begins_member (token_as c w) ≡ true → (is_free c ≡ true) ⊎ ((c ≡ Punctuator) × ((is w "[" || is w "*") ≡ true))
free_or_sign IdentifierName w h = inl refl
free_or_sign Keyword w h = inl refl
free_or_sign NumericLiteral w h = inl refl
free_or_sign StringLiteral w h = inl refl
free_or_sign PrivateName w h = inl refl
free_or_sign Punctuator w h = inr (refl, h)
free_or_sign class.Template w h = absurd (false≢true h)
free_or_sign class.RegularExpressionLiteral w h = absurd (false≢true h)
free_or_sign class.End w h = absurd (false≢true h)

or_cases : (a b : Bool) → (a || b) ≡ true → (a ≡ true) ⊎ (b ≡ true)
or_cases true b h = inl refl
or_cases false b h = inr h

both : (a b : Bool) → (a && b) ≡ true → (a ≡ true) × (b ≡ true)
both true b h = (refl, h)
both false b h = absurd (false≢true h)

not_false : (b : Bool) → not b ≡ true → b ≡ false
not_false false h = refl
not_false true h = absurd (false≢true h)

or_first : (a b : Bool) → a ≡ true → (a || b) ≡ true
or_first true b h = refl
or_first false b h = absurd (false≢true h)

or_second : (a b : Bool) → b ≡ true → (a || b) ≡ true
or_second true b h = refl
or_second false b h = h

and_true : (a b : Bool) → a ≡ true → b ≡ true → (a && b) ≡ true
and_true true b h k = k
and_true false b h k = absurd (false≢true h)

mark_sign : (t : Token) → is_mark (codes "*") t ≡ true → (is_sign t && is t.text "*") ≡ true
mark_sign t h = of t.class h
  where
    of : (c : TokenClass) → is_mark (codes "*") (record t { class = c }) ≡ true → (is_sign (record t { class = c }) && is t.text "*") ≡ true
    of Punctuator h = h
    of _ h = absurd (false≢true h)

key_begun : (t : Token) → begins_key t ≡ true → begins_member t ≡ true
key_begun t h = or_first (begins_key t) _ h

star_begun : (t : Token) → is_mark (codes "*") t ≡ true → begins_member t ≡ true
star_begun t h = or_second (begins_key t) _ (mark_sign t h)

begun_either : (t : Token) → (begins_key t || is_mark (codes "*") t) ≡ true → begins_member t ≡ true
begun_either t h = of (or_cases (begins_key t) (is_mark (codes "*") t) h)
  where
    of : (begins_key t ≡ true) ⊎ (is_mark (codes "*") t ≡ true) → begins_member t ≡ true
    of (inl k) = key_begun t k
    of (inr k) = star_begun t k

follows_begun : (text : SourceText) (w : List ℕ) (t : Token) → follows text w t ≡ true → begins_member t ≡ true
follows_begun text w t h = of (or_cases (begins_key t) _ h)
  where
    of : (begins_key t ≡ true) ⊎ ((is_of_2022 text.language && (is w "static" && is_mark (codes "*") t)) ≡ true) → begins_member t ≡ true
    of (inl k) = key_begun t k
    of (inr k) = star_begun t (both (is w "static") _ (both (is_of_2022 text.language) _ k).1).1

module _ (text : SourceText) where
  abbrev Read_ : Token → Token → Token → Type 0
  Read_ = ReadBy Token (SeenNext text) (behind_in text) Div

  -- what follows a member, as the laws have it
  pub member_ends : {e : Token} → DefinitionEnds text true e → MemberEnds Token (SeenNext text) (behind_in text) (seen_determined text) e
  member_ends u = record { token = behind_in text u.0; mid = u.0; read = u.1.0; follows = u.1.1 }

  ahead_by : {s t m : Token} → Read_ s t m → begins_member t ≡ true → Ahead Token (SeenNext text) (behind_in text) (seen_determined text) s
  ahead_by {s} {t} {m} r h = record { token = t; mid = m; next = r.next; allowed = of (free_or_sign t.class t.text h); begins = h }
    where
      of : (is_free t.class ≡ true) ⊎ ((t.class ≡ Punctuator) × ((is t.text "[" || is t.text "*") ≡ true)) → (g : Goal) → IsTrue (allows g t.class t.text)
      of (inl k) g = (seen_determined text).free g s t m r.next k
      of (inr k) g = subst (λ c. IsTrue (allows g c t.text)) (sym k.0) (sign_begun g t.text k.1)

  -- where such a word goes on, it is no field's key
  goes_behind : (b : Bool) (w : List ℕ) {s t m : Token} → Read_ s t m → names_more text (not b) w t ≡ true → Behind Token (SeenNext text) (behind_in text) (seen_determined text) w b s
  unfolding ahead_by
  goes_behind b w {s} {t} {m} r h = of (or_cases _ _ h)
    where
      later : ((not b && (is w "static" && follows text w t)) ≡ true) ⊎ ((is_of_2022 text.language && (is w "async" && follows_async t)) ≡ true) → Behind Token (SeenNext text) (behind_in text) (seen_determined text) w b s
      later (inl k) =
          let u = both (not b) _ k in
          let v = both (is w "static") _ u.1 in
          let begun = follows_begun text w t v.1 in
          goes_on (ahead_by r begun) (or_second (among w ("get" ∷ "set" ∷ []) && begins_key t) _ (and_true (is w "static" && not b) _ (and_true (is w "static") (not b) v.0 u.0) begun))
      later (inr k) =
          let u = both (is w "async") _ (both (is_of_2022 text.language) _ k).1 in
          let v = both (not t.after_break) _ u.1 in
          on_line (ahead_by r (begun_either t v.1)) r.next (not_false t.after_break v.0)

      of : ((among w ("get" ∷ "set" ∷ []) && begins_key t) ≡ true) ⊎ (((not b && (is w "static" && follows text w t)) || (is_of_2022 text.language && (is w "async" && follows_async t))) ≡ true) → Behind Token (SeenNext text) (behind_in text) (seen_determined text) w b s
      of (inl k) = goes_on (ahead_by r (key_begun t (both (among w ("get" ∷ "set" ∷ [])) _ k).1)) (or_first _ _ k)
      of (inr k) = later (or_cases _ _ k)

  -- so behind a field without a value nothing goes on with its key
  pub field_last : (b c : Bool) (k : Tree) {m e : Token} → Step Token (SeenNext text) (behind_in text) (ending (behind_key (key_word c k) b)) m e → DefinitionEnds text true e → c ≡ false → is_identifier (kind_of k) ≡ true → MissesBy text Div (names_more text (not b) (text_of k)) m
  field_last b c k {m} {e} end ends plain named t j r = of (names_more text (not b) (text_of k) t) refl
    where
      word : key_word c k ≡ text_of k
      word = λ i. cond (plain i || not (named i)) [] (text_of k)

      of : (x : Bool) → names_more text (not b) (text_of k) t ≡ x → x ≡ false
      of false h = refl
      of true h = absurd (no_field_ends Token (SeenNext text) (behind_in text) (seen_determined text) {A = ⊥} (goes_behind b (text_of k) r h) (subst (λ w. Step Token (SeenNext text) (behind_in text) (ending (behind_key w b)) m e) word end) (member_ends ends))

  -- behind a sign that begins no member neither
  pub sign_last : (x : Bool) (w : List ℕ) {v : List ℕ} {m t e : Token} → begins_member (token_as Punctuator v) ≡ false → Reads Token (SeenNext text) (behind_in text) Punctuator v m t e → MissesBy text Div (names_more text x w) m
  sign_last x w {v} {m} {t} {e} quiet r u j b = of (names_more text x w u) refl
    where
      same : u ≡ t
      same = let a = mark_by text r in ((seen_determined text).same Div m u t j e b.next a.next b.allowed a.allowed).0

      begun : begins_member u ≡ false
      begun = ap begins_member same ∙ (λ i. begins_member (token_as (r.class i) (r.text i))) ∙ quiet

      later : (x : Bool) → ((x && (is w "static" && follows text w u)) ≡ true) ⊎ ((is_of_2022 text.language && (is w "async" && follows_async u)) ≡ true) → begins_member u ≡ true
      later x (inl k) = follows_begun text w u (both (is w "static") _ (both x _ k).1).1
      later x (inr k) = begun_either u (both (not u.after_break) _ (both (is w "async") _ (both (is_of_2022 text.language) _ k).1).1).1

      some : ((among w ("get" ∷ "set" ∷ []) && begins_key u) ≡ true) ⊎ (((x && (is w "static" && follows text w u)) || (is_of_2022 text.language && (is w "async" && follows_async u))) ≡ true) → begins_member u ≡ true
      some (inl k) = key_begun u (both (among w ("get" ∷ "set" ∷ [])) _ k).1
      some (inr k) = later x (or_cases _ _ k)

      of : (y : Bool) → names_more text x w u ≡ y → y ≡ false
      of false h = refl
      of true h = absurd (false≢true (sym begun ∙ some (or_cases _ _ h)))
