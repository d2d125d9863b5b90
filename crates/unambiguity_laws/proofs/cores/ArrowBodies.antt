-- The body of an arrow that is no higher is the only one, and not of the other kind.
use Rattle.std.proofs.Common.{◌≡◌, ℕ, ◌≤◌, Bool, true, false, cond, List, refl}
use Rattle.tree.specs.declared.kind.Pair.{Pair}
use Rattle.tree.specs.Tree.{Tree, height}
use Rattle.language.specs.declared.Rank.TheVariants.{Assignment}
use Rattle.language.specs.declared.Start.TheVariants.{NoBrace}
use Rattle.language.specs.Pieces.{expr, body}
use Rattle.language.specs.Token.{Token}
use Rattle.language.specs.Promises.{IsDetermined, Stops}
use Rattle.language.specs.Following.{IsAlike}
use Rattle.language.specs.Grammar.{ways}
use Rattle.language.specs.Derivation.{Spells}
use Rattle.language.proofs.climbing.Arrows.{ArrowBody, as_expression}
use Rattle.language.proofs.climbing.FunctionsAndClasses.{body_begins, braced_absent, block_body}
use Rattle.unambiguity_laws.proofs.Unique.{Unique}

module _ (S : Type 0) (Next : S → Token → S → Type 0) (behind : S → Token) (det : IsDetermined S Next behind) (alike : IsAlike S Next behind) {h : ℕ} (u : Unique S Next behind det h) where
  pub arrow_body : {o : ℕ} {i : Bool} {n : Tree} {s e : S} {P : List Pair} (b : Bool) → height n ≤ h → Spells ways S Next behind o (cond b (expr Assignment i NoBrace) body) n s e P → (b ≡ true → Stops S Next behind Assignment i n e) → ArrowBody S Next behind det o i s e n P b
  arrow_body {o} {n = n} {e = e} {P = P} true low d stopped =
      as_expression (u.expressions.found low (λ k. cc) (λ k. cc) d (stopped refl))
      (record { nothing = λ o' e' n' P' d'. (let v = body_begins S Next behind det d' in (braced_absent S Next behind det v.2).nothing o e n P d (stopped refl)) })
  arrow_body false low d stopped = block_body S Next behind det (body_begins S Next behind det d).2 (u.closed refl low d)
