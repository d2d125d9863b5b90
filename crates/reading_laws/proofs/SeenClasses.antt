-- A language makes names keywords: what is the same of both classes is so of a token as it is read and as it is seen.
use Rattle.std.proofs.Common.{◌≡◌, ℕ, Bool, true, false, cond, ◌&&◌, List, refl}
use Rattle.tokens.specs.declared.token.TokenClass.{TokenClass}
use Rattle.tokens.specs.declared.token.TokenClass.TheVariants.{IdentifierName, Keyword}
use Rattle.language.specs.Vocabulary.{is_keyword}
use Rattle.language.specs.declared.Language.{Language}
use Rattle.language.specs.Languages.{class_in, is_of_2022}

module _ (language : Language) {X : Type 0} (f : TokenClass → X) (h : f Keyword ≡ f IdentifierName) where
  pub same_in : (c : TokenClass) (w : List ℕ) → f (class_in language c w) ≡ f c
  same_in IdentifierName w = of (is_of_2022 language && is_keyword w)
    where
      of : (b : Bool) → f (cond b Keyword IdentifierName) ≡ f IdentifierName
      of true = h
      of false = refl
  same_in _ w = refl
