-- Tokens as the language of a text sees them: they are determined as the text's own are.
use Rattle.std.proofs.Common.{◌≡◌, ◌≢◌, ℕ, Bool, true, false, List, refl, sym, ap, ◌∙◌, subst}
use Rattle.std.proofs.lemmas.Bool.{false≢true}
use Rattle.std.specs.Prelude.{IsTrue, cond, ◌&&◌}
use Rattle.tokens.specs.declared.token.TokenClass.{TokenClass}
use Rattle.tokens.specs.declared.token.TokenClass.TheVariants.{IdentifierName, Keyword}
use Rattle.tokens.specs.declared.token.Goal.{Goal}
use Rattle.tokens.specs.Goals.{allows}
use Rattle.tokens.specs.Lexical.{is_token}
use Rattle.tokens.specs.Tokens.{LexicalToken}
use Rattle.tokens.specs.Reading.{behind, any_goal, Reads}
use Rattle.tokens.proofs.Classes.{token_is}
use Rattle.language.specs.declared.Language.{Language}
use Rattle.language.specs.declared.Language.TheVariants.{Base}
use Rattle.language.specs.Token.{Token, as_read}
use Rattle.language.specs.Vocabulary.{is_keyword}
use Rattle.language.specs.Languages.{is_of_2022, class_in, seen_in, seen_next}
use Rattle.language.specs.Places.{NextIn, itself}
use Rattle.language.specs.Promises.{IsDetermined, is_free}
use Rattle.language.proofs.texts.TextOffsets.{text_determined}
use Rattle.token_cursor.specs.SourceText.{SourceText, SeenNext, behind_in, unseen}

either : {X : Type 0} (f : TokenClass → X) → f Keyword ≡ f IdentifierName → (b : Bool) → f (cond b Keyword IdentifierName) ≡ f IdentifierName
either f same true = same
either f same false = refl

-- what doesn't tell a keyword from a name says of a seen token what it says of the token
pub class_same : {X : Type 0} (f : TokenClass → X) → f Keyword ≡ f IdentifierName → (l : Language) (c : TokenClass) (w : List ℕ) → f (class_in l c w) ≡ f c
class_same f same l IdentifierName w = either f same (is_of_2022 l && is_keyword w)
class_same f same l c w = refl

pub allows_seen : (g : Goal) (l : Language) (c : TokenClass) (w : List ℕ) → allows g (class_in l c w) w ≡ allows g c w
allows_seen g l c w = class_same (λ x. allows g x w) refl l c w

module _ (text : SourceText) (d : IsDetermined Token (NextIn text.bytes any_goal) itself) where
  same_seen : (g : Goal) (s a b e f : Token) → SeenNext text s a e → SeenNext text s b f → IsTrue (allows g a.class a.text) → IsTrue (allows g b.class b.text) → (a ≡ b) × (e ≡ f)
  same_seen g s a b e f (seen_next {t = t} x) (seen_next {t = u} y) p q =
      let both = d.same g s t u e f x y (sym (allows_seen g text.language t.class t.text) ∙ p) (sym (allows_seen g text.language u.class u.text) ∙ q) in
      (ap (seen_in text.language) both.0, both.1)

  last_seen : (s t e : Token) → SeenNext text s t e → behind_in text e ≡ t
  last_seen s t e (seen_next {t = u} x) = ap (seen_in text.language) (d.last s u e x)

  start_seen : (s a b e f : Token) → SeenNext text s a e → SeenNext text s b f → a.start ≡ b.start
  start_seen s a b e f (seen_next {t = t} x) (seen_next {t = u} y) = d.start s t u e f x y

  break_seen : (s a b e f : Token) → SeenNext text s a e → SeenNext text s b f → a.after_break ≡ b.after_break
  break_seen s a b e f (seen_next {t = t} x) (seen_next {t = u} y) = d.break s t u e f x y

  free_seen : (g : Goal) (s t e : Token) → SeenNext text s t e → is_free t.class ≡ true → IsTrue (allows g t.class t.text)
  free_seen g s t e (seen_next {t = u} x) f = allows_seen g text.language u.class u.text ∙ d.free g s u e x (sym (class_same is_free refl text.language u.class u.text) ∙ f)

  pub seen_from : IsDetermined Token (SeenNext text) (behind_in text)
  seen_from = record { same = same_seen; last = last_seen; start = start_seen; break = break_seen; free = free_seen }

-- the tokens of a text are determined as its language sees them
pub seen_determined : (text : SourceText) → IsDetermined Token (SeenNext text) (behind_in text)
seen_determined text = seen_from text (text_determined text.bytes)

-- a token is read as it is seen: only names are seen otherwise
pub read_as_seen : (l : Language) (t : LexicalToken) → as_read (seen_in l t) ≡ seen_in l (as_read t)
read_as_seen l t = by t.class t.text where
  either_read : (b : Bool) (w : List ℕ) → as_read (record t { class = cond b Keyword IdentifierName; text = w }) ≡ record t { class = cond b Keyword IdentifierName; text = w }
  either_read true w = refl
  either_read false w = refl

  by : (c : TokenClass) (w : List ℕ) → as_read (seen_in l (record t { class = c; text = w })) ≡ seen_in l (as_read (record t { class = c; text = w }))
  by IdentifierName w = either_read (is_of_2022 l && is_keyword w) w
  by c w = refl

-- the token that is seen so is found again, if it is no keyword
pub unseen_again : (l : Language) (t : Token) → t.class ≢ Keyword → unseen (seen_in l t) ≡ t
unseen_again l t h = by t.class t.text h where
  either_name : (b : Bool) (w : List ℕ) → unseen (record t { class = cond b Keyword IdentifierName; text = w }) ≡ record t { class = IdentifierName; text = w }
  either_name true w = refl
  either_name false w = refl

  by : (c : TokenClass) (w : List ℕ) → c ≢ Keyword → unseen (seen_in l (record t { class = c; text = w })) ≡ record t { class = c; text = w }
  by IdentifierName w h = either_name (is_of_2022 l && is_keyword w) w
  by Keyword w h = absurd (h refl)
  by c w h = refl

-- the base profile sees each token as it is
pub seen_base : (t : Token) → t ≡ seen_in Base t
seen_base t = by t.class where
  by : (c : TokenClass) → record t { class = c } ≡ seen_in Base (record t { class = c })
  by IdentifierName = refl
  by c = refl

-- each language sees all but names so
pub seen_unnamed : (l : Language) (t : Token) → t.class ≢ IdentifierName → t ≡ seen_in l t
seen_unnamed l t h = by t.class h where
  by : (c : TokenClass) → c ≢ IdentifierName → record t { class = c } ≡ seen_in l (record t { class = c })
  by IdentifierName h = absurd (h refl)
  by c h = refl

-- no goal reads a keyword
pub no_keyword : (text : List ℕ) (g : Goal) (at : ℕ) (t : LexicalToken) → Reads text g at t → t.class ≢ Keyword
no_keyword text g at t x e = false≢true (token_is Keyword x.word (behind text t.stop) (subst (λ c. IsTrue (is_token c x.word (behind text t.stop))) e x.longest))
