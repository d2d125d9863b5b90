-- What is made of a script for the rules that are on: scopes and extra pairs only if one may look at them.
use Rattle.std.specs.Prelude.{◌≡◌, ◌⊎◌, false, List, [], Option, Some, None}
use Rattle.std.specs.Str.{IsUtf8}
use Rattle.tree.specs.declared.kind.Pair.{Pair}
use Rattle.tree.specs.declared.kind.Span.{Span}
use Rattle.tree.specs.Tree.{Tree}
use Rattle.scopes.specs.Found.{Found, found}
use Rattle.rules.specs.Run.{look_at_pairs, look_at_scopes}
use Rattle.rules.specs.Settings.{Settings}
use Rattle.rules.specs.declared.rule_list.RuleName.{RuleName}
use Rattle.lint.specs.Reported.{IsExtra}

-- all extra pairs, or no rule looks at them
abbrev pub HasExtra : {B : Type 0} → List RuleName → List B → Settings → Tree → List Pair → List Span → Type 0
HasExtra names rules s n P spans =
    ((language text : _) → IsUtf8 text → IsExtra language text n P spans) ⊎ ((rules ≡ []) × (look_at_pairs names s ≡ false))

-- the scopes, or no rule looks at them
abbrev pub HasScopes : {B : Type 0} → List RuleName → List B → Settings → Tree → Option Found → Type 0
HasScopes names rules s n (Some scopes) = scopes ≡ found n
HasScopes names rules s n None = (rules ≡ []) × (look_at_scopes names s ≡ false)
