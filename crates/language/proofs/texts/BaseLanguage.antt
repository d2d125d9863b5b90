-- The base language sees each token as it is read, so it is one of the languages.
use Rattle.std.proofs.Common.{◌≡◌, ℕ, Bool, true, false, List, refl, sym, ap, subst, not}
use Rattle.tokens.specs.declared.token.TokenClass.{TokenClass}
use Rattle.tokens.specs.declared.token.TokenClass.TheVariants.{IdentifierName}
use Rattle.tokens.specs.Reading.{any_goal}
use Rattle.language.specs.Token.{Token}
use Rattle.language.specs.Derivation.{Spells}
use Rattle.language.specs.Pieces.{Role}
use Rattle.tree.specs.Tree.{Tree}
use Rattle.tree.specs.declared.kind.Pair.{Pair}
use Rattle.language.specs.Grammar.{ways}
use Rattle.language.specs.Places.{NextIn, itself}
use Rattle.language.specs.Languages.{class_in, seen_in, Seen, seen_next, BaseIsALanguage}
use Rattle.language.proofs.texts.Frame.{Carries, Spells-to}
use Rattle.language.specs.declared.Language.TheVariants.{Base}
use Rattle.language.specs.Later.{has_later}

same_class_in : (c : TokenClass) (w : List ℕ) → class_in Base c w ≡ c
same_class_in IdentifierName w = refl
same_class_in _ w = refl

same_seen : (t : Token) → seen_in Base t ≡ t
same_seen t = ap (λ c. record t { class = c }) (same_class_in t.class t.text)

abbrev Everywhere : Token → Type 0
Everywhere s = Unit {0}

module _ (text : List ℕ) where
  abbrev After : Token → Token → Token → Type 0
  After = NextIn text any_goal

  unseen : {s t e : Token} → Seen Token After Base s t e → After s t e
  unseen {s} {e = e} (seen_next {t = u} x) = subst (λ v. After s v e) (sym (same_seen u)) x

  forth : Carries Token (Seen Token After Base) (seen_in Base) Token After itself (λ s. s) Everywhere
  forth = record { next = λ s t e g n. unseen n; stays = λ s t e g n. tt; before = λ s t e n. sym (same_seen s); after = λ s t e n. sym (same_seen e) }

  back : Carries Token After itself Token (Seen Token After Base) (seen_in Base) (λ s. s) Everywhere
  back = record { next = λ s t e g n. subst (λ v. Seen Token After Base s v e) (same_seen t) (seen_next n); stays = λ s t e g n. tt; before = λ s t e n. same_seen s; after = λ s t e n. same_seen e }

-- so what is spelled in either way is spelled in the other
module _ (text : List ℕ) {o : ℕ} {a : Role} {n : Tree} {s e : Token} {P : List Pair} where
  pub unseen_spells : Spells ways Token (Seen Token (NextIn text any_goal) Base) (seen_in Base) o a n s e P → Spells ways Token (NextIn text any_goal) itself o a n s e P
  unseen_spells d = Spells-to ways Token (Seen Token (NextIn text any_goal) Base) (seen_in Base) Token (NextIn text any_goal) itself (λ s. s) Everywhere (forth text) tt d

  pub seen_spells : Spells ways Token (NextIn text any_goal) itself o a n s e P → Spells ways Token (Seen Token (NextIn text any_goal) Base) (seen_in Base) o a n s e P
  seen_spells d = Spells-to ways Token (NextIn text any_goal) itself Token (Seen Token (NextIn text any_goal) Base) (seen_in Base) (λ s. s) Everywhere (back text) tt d

unlater : (b : Bool) → not b ≡ true → b ≡ false
unlater true h = sym h
unlater false h = refl

pub base_is_a_language : BaseIsALanguage
base_is_a_language o text n P = (λ d. ((d.1, unseen_spells text d.2), unlater (has_later n) d.0), λ d. (ap not d.1, d.0.0, seen_spells text d.0.1))
