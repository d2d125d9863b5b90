-- Searches for functions and classes, as the walk over parts goes.
use Rattle.std.proofs.Common.{◌≡◌, ℕ, ◌+◌, ◌<◌, ◌≤◌, Bool, true, false, Some, None, sym, ap, ◌∙◌}
use Rattle.std.specs.Prelude.{◌||◌}
use Rattle.tree.specs.Tree.{Tree, node, Parts, kind_of, parts_of, part_at, part_count}
use Rattle.tree.proofs.PartWalk.{parts_drop, parts_drop-some, parts_drop-gap, parts_drop-past}
use Rattle.repetition_rules.specs.Written.{has_code, have_code, holds_code}

pub code-here : (t : Tree) → holds_code (kind_of t) ≡ true → true ≡ has_code t
unfolding has_code
code-here (node k w g s e ps) h = sym (ap (λ b. b || have_code ps) h)

pub code-below : (t : Tree) → holds_code (kind_of t) ≡ false → have_code (parts_of t) ≡ has_code t
unfolding has_code
code-below (node k w g s e ps) h = sym (ap (λ b. b || have_code ps) h)

module _ (ps : Parts) (i : ℕ) (total : Bool) (so : have_code (parts_drop i ps) ≡ total) where
  code-step : (u : Tree) → Some u ≡ part_at ps i → have_code (parts_drop i ps) ≡ (has_code u || have_code (parts_drop (i + 1) ps))
  unfolding have_code
  code-step u h = ap have_code (parts_drop-some ps i u h)

  pub code-found : (u : Tree) → Some u ≡ part_at ps i → has_code u ≡ true → true ≡ total
  code-found u e h = sym (ap (λ b. b || have_code (parts_drop (i + 1) ps)) h) ∙ sym (code-step u e) ∙ so

  pub code-turn : (u : Tree) → Some u ≡ part_at ps i → has_code u ≡ false → have_code (parts_drop (i + 1) ps) ≡ total
  code-turn u e h = sym (ap (λ b. b || have_code (parts_drop (i + 1) ps)) h) ∙ sym (code-step u e) ∙ so

  pub code-gap : None ≡ part_at ps i → i < part_count ps → have_code (parts_drop (i + 1) ps) ≡ total
  unfolding have_code
  code-gap e l = sym (ap have_code (parts_drop-gap ps i e l)) ∙ so

  pub code-end : part_count ps ≤ i → false ≡ total
  unfolding have_code
  code-end l = sym (ap have_code (parts_drop-past ps i l)) ∙ so
