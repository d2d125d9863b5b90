-- Where tokens are determined, they are so as each language sees them.
use Rattle.std.proofs.Common.{◌≡◌, Bool, true, false, cond, List, refl, sym, ap, ◌∙◌, inl, inr}
use Rattle.std.specs.Prelude.{IsTrue, ℕ, ◌&&◌, ◌⊎◌}
use Rattle.tokens.specs.declared.token.TokenClass.{TokenClass}
use Rattle.tokens.specs.declared.token.TokenClass.TheVariants.{IdentifierName, Keyword, Punctuator, Template}
use Rattle.tokens.specs.declared.token.Goal.{Goal}
use Rattle.tokens.specs.Goals.{allows}
use Rattle.language.specs.Token.{Token}
use Rattle.language.specs.Promises.{is_free, IsDetermined}
use Rattle.language.specs.Following.{IsAlike}
use Rattle.language.specs.Vocabulary.{is_keyword}
use Rattle.language.specs.Languages.{class_in, seen_in, Seen, seen_next, is_of_2022}
use Rattle.language.specs.declared.Language.{Language}

allowed_in : (m : Language) (g : Goal) (c : TokenClass) (w : List ℕ) → allows g (class_in m c w) w ≡ allows g c w
allowed_in m g IdentifierName w = of (is_of_2022 m && is_keyword w)
  where
    of : (b : Bool) → allows g (cond b Keyword IdentifierName) w ≡ allows g IdentifierName w
    of true = refl
    of false = refl
allowed_in m g _ w = refl

free_in : (m : Language) (c : TokenClass) (w : List ℕ) → is_free (class_in m c w) ≡ is_free c
free_in m IdentifierName w = of (is_of_2022 m && is_keyword w)
  where
    of : (b : Bool) → is_free (cond b Keyword IdentifierName) ≡ true
    of true = refl
    of false = refl
free_in m _ w = refl

module _ (S : Type 0) (Next : S → Token → S → Type 0) (behind : S → Token) (m : Language) where
  abbrev pub seen_behind : S → Token
  seen_behind s = seen_in m (behind s)

  module _ (det : IsDetermined S Next behind) where
    same_seen : (g : Goal) (s : S) (a b : Token) (e f : S) → Seen S Next m s a e → Seen S Next m s b f → IsTrue (allows g a.class a.text) → IsTrue (allows g b.class b.text) → (a ≡ b) × (e ≡ f)
    same_seen g s a b e f (seen_next {t = t} x) (seen_next {t = u} y) h k =
        let same = det.same g s t u e f x y (sym (allowed_in m g t.class t.text) ∙ h) (sym (allowed_in m g u.class u.text) ∙ k) in (ap (seen_in m) same.0, same.1)

    last_seen : (s : S) (t : Token) (e : S) → Seen S Next m s t e → seen_behind e ≡ t
    last_seen s t e (seen_next {t = u} x) = ap (seen_in m) (det.last s u e x)

    start_seen : (s : S) (a b : Token) (e f : S) → Seen S Next m s a e → Seen S Next m s b f → a.start ≡ b.start
    start_seen s a b e f (seen_next {t = t} x) (seen_next {t = u} y) = det.start s t u e f x y

    break_seen : (s : S) (a b : Token) (e f : S) → Seen S Next m s a e → Seen S Next m s b f → a.after_break ≡ b.after_break
    break_seen s a b e f (seen_next {t = t} x) (seen_next {t = u} y) = det.break s t u e f x y

    free_seen : (g : Goal) (s : S) (t : Token) (e : S) → Seen S Next m s t e → is_free t.class ≡ true → IsTrue (allows g t.class t.text)
    free_seen g s t e (seen_next {t = u} x) h = allowed_in m g u.class u.text ∙ det.free g s u e x (sym (free_in m u.class u.text) ∙ h)

    pub seen_determined : IsDetermined S (Seen S Next m) seen_behind
    seen_determined = record { same = same_seen; last = last_seen; start = start_seen; break = break_seen; free = free_seen }

  module _ (alike : IsAlike S Next behind) where
    brace_seen : (s : S) (a b : Token) (e f : S) → Seen S Next m s a e → Seen S Next m s b f → Rattle.tokens.specs.Alphabet.begins_with (Rattle.tokens.specs.Alphabet.one_of "}") a.text ≡ Rattle.tokens.specs.Alphabet.begins_with (Rattle.tokens.specs.Alphabet.one_of "}") b.text
    brace_seen s a b e f (seen_next {t = t} x) (seen_next {t = u} y) = alike.brace s t u e f x y

    sort_seen : (s : S) (a : Token) (e : S) → Seen S Next m s a e → Rattle.tokens.specs.Alphabet.begins_with (Rattle.tokens.specs.Alphabet.one_of "}") a.text ≡ true → (a.class ≡ Punctuator) ⊎ (a.class ≡ Template)
    sort_seen s a e (seen_next {t = t} x) h = of (alike.sort s t e x h)
      where
        of : (t.class ≡ Punctuator) ⊎ (t.class ≡ Template) → (class_in m t.class t.text ≡ Punctuator) ⊎ (class_in m t.class t.text ≡ Template)
        of (inl c) = inl (ap (λ k. class_in m k t.text) c)
        of (inr c) = inr (ap (λ k. class_in m k t.text) c)

    pub seen_alike : IsAlike S (Seen S Next m) seen_behind
    seen_alike = record { brace = brace_seen; sort = sort_seen }
