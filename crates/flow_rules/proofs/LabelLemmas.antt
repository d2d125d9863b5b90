-- What leaves a node, as a search goes over its parts.
use Rattle.std.proofs.Common.{◌≡◌, ℕ, ◌+◌, ◌<◌, ◌≤◌, Bool, true, false, Some, None, sym, ap, ◌∙◌}
use Rattle.std.specs.Prelude.{not, ◌&&◌, ◌||◌}
use Rattle.tree.specs.Tree.{Tree, node, Parts, kind_of, parts_of, part_at, part_count}
use Rattle.tree.proofs.PartWalk.{parts_drop, parts_drop-some, parts_drop-gap, parts_drop-past}
use Rattle.flow_rules.specs.Arounds.{gives_value, has_value}
use Rattle.flow_rules.specs.Completion.{Sought, ends, has, is_sought, some}

pub here : (x : Sought) (t : Tree) → is_sought x (kind_of t) (part_at (parts_of t) 0) ≡ true → true ≡ has x t
unfolding has
here x (node k w g s e ps) h = sym (ap (λ b. b || (not (ends x k) && some x ps)) h)

pub ended : (x : Sought) (t : Tree) → is_sought x (kind_of t) (part_at (parts_of t) 0) ≡ false → ends x (kind_of t) ≡ true → false ≡ has x t
unfolding has
ended x (node k w g s e ps) h c = sym (ap (λ b. b || (not (ends x k) && some x ps)) h ∙ ap (λ b. not b && some x ps) c)

pub below : (x : Sought) (t : Tree) → is_sought x (kind_of t) (part_at (parts_of t) 0) ≡ false → ends x (kind_of t) ≡ false → some x (parts_of t) ≡ has x t
unfolding has
below x (node k w g s e ps) h c = sym (ap (λ b. b || (not (ends x k) && some x ps)) h ∙ ap (λ b. not b && some x ps) c)

module _ (x : Sought) (ps : Parts) (i : ℕ) (total : Bool) (so : some x (parts_drop i ps) ≡ total) where
  some-step : (u : Tree) → Some u ≡ part_at ps i → some x (parts_drop i ps) ≡ (has x u || some x (parts_drop (i + 1) ps))
  unfolding some
  some-step u h = ap (some x) (parts_drop-some ps i u h)

  pub some-found : (u : Tree) → Some u ≡ part_at ps i → has x u ≡ true → true ≡ total
  some-found u e h = sym (ap (λ b. b || some x (parts_drop (i + 1) ps)) h) ∙ sym (some-step u e) ∙ so

  pub some-turn : (u : Tree) → Some u ≡ part_at ps i → has x u ≡ false → some x (parts_drop (i + 1) ps) ≡ total
  some-turn u e h = sym (ap (λ b. b || some x (parts_drop (i + 1) ps)) h) ∙ sym (some-step u e) ∙ so

  pub some-gap : None ≡ part_at ps i → i < part_count ps → some x (parts_drop (i + 1) ps) ≡ total
  unfolding some
  some-gap e l = sym (ap (some x) (parts_drop-gap ps i e l)) ∙ so

  pub some-end : part_count ps ≤ i → false ≡ total
  unfolding some
  some-end l = sym (ap (some x) (parts_drop-past ps i l)) ∙ so

module _ (ps : Parts) (i : ℕ) (total : Bool) (so : has_value (parts_drop i ps) ≡ total) where
  value-step : (u : Tree) → Some u ≡ part_at ps i → has_value (parts_drop i ps) ≡ (gives_value u || has_value (parts_drop (i + 1) ps))
  value-step u h = ap has_value (parts_drop-some ps i u h)

  pub value-found : (u : Tree) → Some u ≡ part_at ps i → gives_value u ≡ true → true ≡ total
  value-found u e h = sym (ap (λ b. b || has_value (parts_drop (i + 1) ps)) h) ∙ sym (value-step u e) ∙ so

  pub value-turn : (u : Tree) → Some u ≡ part_at ps i → gives_value u ≡ false → has_value (parts_drop (i + 1) ps) ≡ total
  value-turn u e h = sym (ap (λ b. b || has_value (parts_drop (i + 1) ps)) h) ∙ sym (value-step u e) ∙ so

  pub value-gap : None ≡ part_at ps i → i < part_count ps → has_value (parts_drop (i + 1) ps) ≡ total
  value-gap e l = sym (ap has_value (parts_drop-gap ps i e l)) ∙ so

  pub value-end : part_count ps ≤ i → false ≡ total
  value-end l = sym (ap has_value (parts_drop-past ps i l)) ∙ so
