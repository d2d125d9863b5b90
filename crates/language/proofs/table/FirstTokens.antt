-- Cases, handlers, the functions of methods and the heads of `for` by their first token; patterns by theirs.
use Rattle.std.proofs.Common.{◌≡◌, ℕ, List, sym, ap, ◌∙◌}
use Rattle.tokens.specs.declared.token.TokenClass.TheVariants.{IdentifierName}
use Rattle.tokens.specs.declared.token.Goal.TheVariants.{Div}
use Rattle.language.specs.Token.{Token}
use Rattle.language.specs.Promises.{is_free, IsDetermined}
use Rattle.language.specs.Derivation.{Reads}

module _ (S : Type 0) (Next : S → Token → S → Type 0) (behind : S → Token) (det : IsDetermined S Next behind) where
  -- one name isn't another
  pub two_names : {v w : List ℕ} {s m k : S} {t u : Token} → Reads S Next behind IdentifierName v s t m → Reads S Next behind IdentifierName w s u k → v ≡ w
  two_names {s = s} {m = m} {k = k} {t = t} {u = u} a b = sym a.text ∙ ap (λ (x : Token). x.text) (det.same Div s t u m k a.next b.next (det.free Div s t m a.next (ap is_free a.class)) (det.free Div s u k b.next (ap is_free b.class))).0 ∙ b.text
