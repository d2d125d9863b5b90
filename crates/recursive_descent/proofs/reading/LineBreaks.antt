-- Another class than a template's.
use Rattle.std.proofs.Common.{◌≡◌, false, refl}
use Rattle.tokens.specs.declared.token.TokenClass.{TokenClass}
use Rattle.tokens.specs.declared.token.TokenClass.TheVariants.{Template}
use Rattle.language.specs.Token.{same_class}

pub not_template : (d : TokenClass) → (d ≡ Template → ⊥) → same_class Template d ≡ false
not_template Template h = absurd (h refl)
not_template _ h = refl
