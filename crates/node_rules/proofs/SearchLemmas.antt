-- Searches, as the walk over parts goes.
use Rattle.std.proofs.Common.{◌≡◌, ℕ, zero, suc, ◌+◌, ◌<◌, ◌≤◌, Bool, true, false, Option, Some, None, refl, sym, ap, ◌∙◌}
use Rattle.std.specs.Prelude.{not, ◌&&◌, ◌||◌}
use Rattle.tree.specs.Kinds.{is_function}
use Rattle.tree.specs.Tree.{Tree, node, Parts, none, part, gap, kind_of, parts_of, part_at, part_count}
use Rattle.tree.proofs.PartWalk.{parts_drop, parts_drop-some, parts_drop-gap, parts_drop-past}
use Rattle.node_rules.specs.Searches.{some_in, some_below}

pub sought-here : (f : Tree → Bool) (t : Tree) → f t ≡ true → true ≡ some_in f t
unfolding some_in
sought-here f (node k w g s e ps) h = sym (ap (λ b. b || (not (is_function k) && some_below f ps)) h)

pub sought-shut : (f : Tree → Bool) (t : Tree) → f t ≡ false → is_function (kind_of t) ≡ true → false ≡ some_in f t
unfolding some_in
sought-shut f (node k w g s e ps) h c = sym (ap (λ b. b || (not (is_function k) && some_below f ps)) h ∙ ap (λ b. not b && some_below f ps) c)

pub sought-below : (f : Tree → Bool) (t : Tree) → f t ≡ false → is_function (kind_of t) ≡ false → some_below f (parts_of t) ≡ some_in f t
unfolding some_in
sought-below f (node k w g s e ps) h c = sym (ap (λ b. b || (not (is_function k) && some_below f ps)) h ∙ ap (λ b. not b && some_below f ps) c)

sought-step : (f : Tree → Bool) (ps : Parts) (i : ℕ) (u : Tree) → Some u ≡ part_at ps i → some_below f (parts_drop i ps) ≡ (some_in f u || some_below f (parts_drop (i + 1) ps))
unfolding some_below
sought-step f ps i u h = ap (some_below f) (parts_drop-some ps i u h)

pub sought-found : (f : Tree → Bool) (ps : Parts) (i : ℕ) (u : Tree) (total : Bool) → Some u ≡ part_at ps i → some_in f u ≡ true → some_below f (parts_drop i ps) ≡ total → true ≡ total
sought-found f ps i u total e h so = sym (ap (λ b. b || some_below f (parts_drop (i + 1) ps)) h) ∙ sym (sought-step f ps i u e) ∙ so

pub sought-turn : (f : Tree → Bool) (ps : Parts) (i : ℕ) (u : Tree) (total : Bool) → Some u ≡ part_at ps i → some_in f u ≡ false → some_below f (parts_drop i ps) ≡ total → some_below f (parts_drop (i + 1) ps) ≡ total
sought-turn f ps i u total e h so = sym (ap (λ b. b || some_below f (parts_drop (i + 1) ps)) h) ∙ sym (sought-step f ps i u e) ∙ so

pub sought-gap : (f : Tree → Bool) (ps : Parts) (i : ℕ) (total : Bool) → None ≡ part_at ps i → i < part_count ps → some_below f (parts_drop i ps) ≡ total → some_below f (parts_drop (i + 1) ps) ≡ total
unfolding some_below
sought-gap f ps i total e l so = sym (ap (some_below f) (parts_drop-gap ps i e l)) ∙ so

pub sought-end : (f : Tree → Bool) (ps : Parts) (i : ℕ) (total : Bool) → part_count ps ≤ i → some_below f (parts_drop i ps) ≡ total → false ≡ total
unfolding some_below
sought-end f ps i total l so = sym (ap (some_below f) (parts_drop-past ps i l)) ∙ so
