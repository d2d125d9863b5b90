-- The words before a method's name as the tokens ahead tell them, and where a static block begins (ECMA-262, 13th edition, 15.5 to 15.8).
use Rattle.std.proofs.Common.{◌≡◌, inl, inr, ℕ, Bool, true, false, List, Option, Some, None, Result, Ok, Err, refl, sym, ap, ◌∙◌, subst, codes}
use Rattle.std.specs.Prelude.{IfOk, not, ◌&&◌, ◌||◌}
use Rattle.source_text.specs.declared.fault.Fault.{Fault}
use Rattle.std.specs.Str.{bytes_eq}
use Rattle.std.proofs.lemmas.Bool.{false≢true, and_parts}
use Rattle.std.proofs.lemmas.Slice.Eq.{bytes_eq-Decides}
use Rattle.tokens.specs.Scanned.{token_of}
use Rattle.tokens.specs.Tokens.{LexicalToken}
use Rattle.tokens.specs.declared.token.Token.{Token as Scanned}
use Rattle.tokens.specs.declared.token.TokenClass.{TokenClass}
use Rattle.tokens.specs.declared.token.TokenClass.TheVariants.{IdentifierName, Keyword, NumericLiteral, StringLiteral, Punctuator, PrivateName}
use Rattle.tokens.specs.declared.token.Goal.TheVariants.{Div}
use Rattle.tree.specs.declared.kind.Form.{Form}
use Rattle.tree.specs.declared.kind.Form.TheVariants.{Method, Async}
use Rattle.language.specs.declared.Language.{Language}
use Rattle.language.specs.declared.Language.TheVariants.{Base}
use Rattle.language.specs.Later.{has_later}
use Rattle.language.specs.Languages.{is_of_2022}
use Rattle.language.specs.Token.{Token, as_read, is_token, is_mark, same_class}
use Rattle.language.specs.Vocabulary.{is}
use Rattle.language.specs.Promises.{ReadBy}
use Rattle.language.specs.Derivation.{Reads}
use Rattle.token_cursor.specs.CursorState.{CursorState, IsAhead, NoneAhead}
use Rattle.token_cursor.specs.Seen.{ReadsHere, Sees, Misses, SeesBy, MissesBy, TokenHere, is_key_class}
use Rattle.token_cursor.specs.SourceText.{SourceText, SeenNext, behind_in, unseen}
use Rattle.token_cursor.proofs.TokensAhead.{seen, sees, missed_by, mark_missed, mark_none, mark_by}
use Rattle.parser_tables.specs.Outcomes.{MakesAs}
use Rattle.parser_tables.specs.Tests.{begins_key, is_key}
use Rattle.parser_tables.specs.Tokens.{key_node, key_node_by}
use Rattle.recursive_descent.specs.declared.properties.PropertyName.{PropertyName}
use Rattle.recursive_descent.specs.Later.{BeginsStaticBlock, StarredAt}
use Rattle.recursive_descent.specs.Modifiers.{follows, follows_async, MethodWords, no_words, a_star, async_word, async_star, async_named}
use Rattle.recursive_descent.specs.Spelled.{OfLanguage}
use Rattle.recursive_descent.proofs.complete_expressions.Agreement.{words_same}
use Rattle.recursive_descent.proofs.sound_properties.Modifiers.{place_is}

-- behind `async` on its line
pub async_seen : (t : Token) → t.after_break ≡ false → (begins_key t || is_mark (codes "*") t) ≡ true → follows_async t ≡ true
async_seen t line h = (λ i. not (line i) && h i)

pub async_missed : (t : Token) → begins_key t ≡ false → is_mark (codes "*") t ≡ false → follows_async t ≡ false
async_missed t h k = ap (λ b. not t.after_break && b) (λ i. h i || k i) ∙ of (not t.after_break)
  where
    of : (b : Bool) → (b && false) ≡ false
    of true = refl
    of false = refl

pub async_broken : (t : Token) → not t.after_break ≡ false → follows_async t ≡ false
async_broken t h = ap (λ b. b && (begins_key t || is_mark (codes "*") t)) h

pub key_or : (t : Token) → begins_key t ≡ true → (begins_key t || is_mark (codes "*") t) ≡ true
key_or t h = ap (λ b. b || is_mark (codes "*") t) h

pub star_or : (t : Token) → is_mark (codes "*") t ≡ true → (begins_key t || is_mark (codes "*") t) ≡ true
star_or t h = ap (λ b. begins_key t || b) h ∙ of (begins_key t)
  where
    of : (b : Bool) → (b || true) ≡ true
    of true = refl
    of false = refl

-- what a word is followed by
pub key_follows : (text : SourceText) (w : List ℕ) {s : Token} → SeesBy text Div begins_key s → SeesBy text Div (follows text w) s
key_follows text w sees = (sees.0, (sees.1.0, ap (λ b. b || (is_of_2022 text.language && (is w "static" && is_mark (codes "*") (behind_in text sees.0)))) sees.1.1))

module _ (text : SourceText) where
  mark_read : {w : List ℕ} {s t m : Token} → ReadBy Token (SeenNext text) (behind_in text) Div s t m → is_mark w t ≡ true → Reads Token (SeenNext text) (behind_in text) Punctuator w s t m
  mark_read {w} {t = t} r h = let k = and_parts (same_class Punctuator t.class) (bytes_eq t.text w) h in record { next = r.next; class = sign_class t.class k.0; text = (bytes_eq-Decides t.text w).0 k.1 }
    where
      sign_class : (c : TokenClass) → same_class Punctuator c ≡ true → c ≡ Punctuator
      sign_class Punctuator h = refl
      sign_class _ h = absurd (false≢true h)

  star_told : (t : Token) → t.class ≡ Punctuator → t.text ≡ codes "*" → is_mark (codes "*") t ≡ true
  star_told t h k = (λ i. is_mark (codes "*") (record t { class = h i; text = k i }))

  pub star_follows : (w : List ℕ) {s : Token} → is_of_2022 text.language ≡ true → is w "static" ≡ true → Sees text Punctuator (codes "*") s → SeesBy text Div (follows text w) s
  star_follows w l h sees =
      let t = behind_in text sees.0 in
      (sees.0, (mark_by text sees.1, (λ i. begins_key t || (l i && (h i && star_told t sees.1.class sees.1.text i))) ∙ of (begins_key t)))
    where
      of : (b : Bool) → (b || true) ≡ true
      of true = refl
      of false = refl

  pub none_follows : (w : List ℕ) {s : Token} → MissesBy text Div begins_key s → (is_of_2022 text.language ≡ true → is w "static" ≡ true → Misses text Punctuator (codes "*") s) → MissesBy text Div (follows text w) s
  none_follows w {s} none quiet t m r = ap (λ b. b || (is_of_2022 text.language && (is w "static" && is_mark (codes "*") t))) (none t m r) ∙ of (is_of_2022 text.language) refl (is w "static") refl (is_mark (codes "*") t) refl
    where
      starred : is_mark (codes "*") t ≡ true → is_of_2022 text.language ≡ true → is w "static" ≡ true → ⊥
      starred h l k = quiet l k t m (mark_read r h)

      of : (a : Bool) → is_of_2022 text.language ≡ a → (b : Bool) → is w "static" ≡ b → (c : Bool) → is_mark (codes "*") t ≡ c → (a && (b && c)) ≡ false
      of true l true k true h = absurd (starred h l k)
      of true l true k false h = refl
      of true l false k c h = refl
      of false l b k c h = refl

  -- a static block
  pub block_seen : (s : Token) (u v : LexicalToken) → is_of_2022 text.language ≡ true → IsAhead Div text s.stop u → is_token IdentifierName (codes "static") (as_read u) ≡ true → IsAhead Div text u.stop v → is_token Punctuator (codes "{") (as_read v) ≡ true → BeginsStaticBlock text s
  block_seen s u v l a h b k = (l, (unseen (as_read u), seen text Div IdentifierName (codes "static") s u a h, sees text Div Punctuator (codes "{") (unseen (as_read u)) v b k))

  abbrev NoBlock : Token → Type 0
  NoBlock s = is_of_2022 text.language ≡ true → (m : Token) → ReadsHere text IdentifierName (codes "static") s m → Misses text Punctuator (codes "{") m

  pub no_word_block : (s : Token) → Misses text IdentifierName (codes "static") s → NoBlock s
  no_word_block s none l m r = absurd (none (behind_in text m) m r)

  pub no_brace_block : (s : Token) (u v : LexicalToken) → IsAhead Div text s.stop u → is_token IdentifierName (codes "static") (as_read u) ≡ true → IsAhead Div text u.stop v → is_token Punctuator (codes "{") (as_read v) ≡ false → NoBlock s
  no_brace_block s u v a h b k l m r = subst (λ z. Misses text Punctuator (codes "{") z) (words_same text (seen text Div IdentifierName (codes "static") s u a h) r).1 (mark_missed text (codes "{") (unseen (as_read u)) v b k)

  pub none_block : (s : Token) (u : LexicalToken) → IsAhead Div text s.stop u → is_token IdentifierName (codes "static") (as_read u) ≡ true → NoneAhead Div text u.stop → NoBlock s
  none_block s u a h none l m r = subst (λ z. Misses text Punctuator (codes "{") z) (words_same text (seen text Div IdentifierName (codes "static") s u a h) r).1 (mark_none text (codes "{") (unseen (as_read u)) none)

  -- `async` that is the name itself
  pub async_alone : (behind : SourceText) (s e : Token) (name : Scanned) (form : Form) (got : Option Scanned) → is_of_2022 text.language ≡ true → IsAhead Div text s.stop (token_of name) → is_token IdentifierName (codes "async") (as_read (token_of name)) ≡ true → e ≡ unseen (as_read (token_of name)) → behind ≡ text → MissesBy behind Div follows_async e →
      form ≡ Method → got ≡ Some name → MethodWords text s e form got
  async_alone behind s e name form got l a h p q none f g =
      rw (f, g) (async_named l (rw p (seen text Div IdentifierName (codes "async") s (token_of name) a h)) (subst (λ x. MissesBy x Div follows_async e) q none) (p ∙ place_is (token_of name) (codes "async") h))

  -- `async`, and perhaps `*` behind it
  pub async_starred : (s : Token) (u : LexicalToken) (p q : CursorState) (x y form : Form) (got : Option Scanned) → is_of_2022 text.language ≡ true → IsAhead Div text s.stop u → is_token IdentifierName (codes "async") (as_read u) ≡ true → p.last ≡ unseen (as_read u) → p.text ≡ text → SeesBy p.text Div follows_async p.last →
      x ≡ Async → StarredAt p q x y → form ≡ y → got ≡ None → MethodWords text s q.last form got
  async_starred s u p q x y form got l a h at text_is sees x_is starred f g = of starred
    where
      read : ReadsHere text IdentifierName (codes "async") s p.last
      read = subst (λ z. ReadsHere text IdentifierName (codes "async") s z) (sym at) (seen text Div IdentifierName (codes "async") s u a h)

      behind : SeesBy text Div follows_async p.last
      behind = subst (λ z. SeesBy z Div follows_async p.last) text_is sees

      of : StarredAt p q x y → MethodWords text s q.last form got
      of (inl k) = rw (f ∙ k.2 ∙ ap Rattle.recursive_descent.specs.Later.with_star x_is, g) (async_star l read behind (subst (λ z. ReadsHere z Punctuator (codes "*") p.last q.last) text_is k.1))
      of (inr k) = rw (f ∙ k.1 ∙ x_is, g) (subst (λ z. MethodWords text s z Async None) (sym k.0) (async_word l read behind (subst (λ z. Misses z Punctuator (codes "*") p.last) text_is (k.2 (subst (λ z. is_of_2022 z.language ≡ true) (sym text_is) l)))))

  -- no `async`, and perhaps `*`
  pub plain_starred : (s : Token) (p q : CursorState) (x y form : Form) (got : Option Scanned) → is_of_2022 text.language ≡ true → Misses text IdentifierName (codes "async") s → p.last ≡ s → p.text ≡ text → x ≡ Method → StarredAt p q x y → form ≡ y → got ≡ None → MethodWords text s q.last form got
  plain_starred s p q x y form got l none at text_is x_is starred f g = of starred
    where
      of : StarredAt p q x y → MethodWords text s q.last form got
      of (inl k) = rw (f ∙ k.2 ∙ ap Rattle.recursive_descent.specs.Later.with_star x_is, g) (a_star l (subst (λ z. ReadsHere text Punctuator (codes "*") z q.last) at (subst (λ z. ReadsHere z Punctuator (codes "*") p.last q.last) text_is k.1)))
      of (inr k) = rw (f ∙ k.1 ∙ x_is, g) (no_words (λ h. (none, subst (λ z. Misses text Punctuator (codes "*") z) at (subst (λ z. Misses z Punctuator (codes "*") p.last) text_is (k.2 (subst (λ z. is_of_2022 z.language ≡ true) (sym text_is) l))))) (k.0 ∙ at))

  -- the base profile has no such words
  pub base_words : (s e : Token) (form : Form) (got : Option Scanned) → is_of_2022 text.language ≡ false → e ≡ s → form ≡ Method → got ≡ None → MethodWords text s e form got
  base_words s e form got l at f g = rw (f, g) (no_words (λ h. absurd (false≢true (sym l ∙ h))) at)

  -- a key that the token isn't
  pub no_key : (in_class : Bool) (s : Token) (u : LexicalToken) → IsAhead Div text s.stop u → is_key_class u.class ≡ false → (in_class && (is_of_2022 text.language && same_class PrivateName u.class)) ≡ false → MissesBy text Div (is_key text in_class) s
  no_key in_class s u a h k = missed_by text (is_key text in_class) Div s u a (λ i. h i || k i)

  -- the key that was read is of the language
  private_told : (in_class : Bool) (l : Language) → (in_class && (is_of_2022 l && true)) ≡ true → l ≡ Base → ⊥
  private_told true Base h e = false≢true h
  private_told false l h e = false≢true h
  private_told true l h e = false≢true (ap is_of_2022 (sym e) ∙ h')
    where
      h' : is_of_2022 l ≡ true
      h' = (and_parts (is_of_2022 l) true h).0

  key_own_by : (in_class : Bool) (c : TokenClass) (t : LexicalToken) → (is_key_class c || (in_class && (is_of_2022 text.language && same_class PrivateName c))) ≡ true → OfLanguage text (key_node_by c t)
  unfolding has_later
  key_own_by in_class IdentifierName t h = record { none_later = λ b. refl }
  key_own_by in_class Keyword t h = record { none_later = λ b. refl }
  key_own_by in_class NumericLiteral t h = record { none_later = λ b. refl }
  key_own_by in_class StringLiteral t h = record { none_later = λ b. refl }
  key_own_by in_class PrivateName t h = record { none_later = λ b. absurd (private_told in_class text.language h b) }
  key_own_by in_class _ t h = record { none_later = λ b. refl }

  pub key_owned : {s e : Token} (in_class : Bool) (t : Scanned) (b : Bool) (levels high : ℕ) (result : Result PropertyName Fault) → TokenHere text Div (is_key text in_class) s e → behind_in text e ≡ as_read (token_of t) →
      MakesAs (record { node = key_node (token_of t); computed = false; token = Some t; is_constructor = b }) levels high result → IfOk result (λ key. OfLanguage text key.node)
  key_owned in_class t b levels high (Ok key) here shown made = subst (λ (x : PropertyName). OfLanguage text x.node) (sym made.0) (key_own_by in_class t.class (token_of t) (subst (λ x. is_key text in_class x ≡ true) shown here.1))
  key_owned in_class t b levels high (Err fault) here shown made = tt
