-- What a pattern binds, by its kind.
use Rattle.std.proofs.Common.{◌≡◌, ℕ, zero, suc, ◌+◌, ◌-◌, List, [], ◌∷◌, ◌++◌, refl, sym, ap, ◌∙◌, arith, add-one}
use Rattle.tree.specs.declared.kind.Kind.{Kind}
use Rattle.tree.specs.declared.kind.Kind.TheVariants.{Identifier, ArrayPattern, ObjectPattern, RestElement, AssignmentPattern, Property}
use Rattle.tree.specs.Tree.{Tree, Parts, none, part, gap, node, kind_of, parts_of, part_at, part_count}
use Rattle.name_tables.specs.declared.bound.PatternNames.{PatternNames}
use Rattle.name_tables.specs.declared.bound.PatternNames.TheVariants.{Name, AllParts, FirstPart, LastPart, Nothing}
use Rattle.name_tables.specs.PatternParts.{at_part, pattern_of}
use Rattle.name_tables.specs.BoundNames.{each_part, bound_names, all_bound_names, first_bound_names, last_bound_names}

module _ {B : Type 0} (f : Tree → B) where
  pub all_bound_names-each : (ps : Parts) → all_bound_names f ps ≡ each_part (bound_names f) ps
  unfolding all_bound_names
  all_bound_names-each none = refl
  all_bound_names-each (part t ps) = ap (λ l. bound_names f t ++ l) (all_bound_names-each ps)
  all_bound_names-each (gap ps) = all_bound_names-each ps

  pub first_bound_names-at : (ps : Parts) → first_bound_names f ps ≡ at_part (bound_names f) (part_at ps 0)
  unfolding first_bound_names
  first_bound_names-at none = refl
  first_bound_names-at (part t ps) = refl
  first_bound_names-at (gap ps) = refl

  last-bound : (ps : Parts) (k : ℕ) → part_count ps ≡ suc k → last_bound_names f ps ≡ at_part (bound_names f) (part_at ps k)
  unfolding last_bound_names
  last-bound none k e = absurd (omega (arith, e))
  last-bound (part t none) zero e = refl
  last-bound (part t none) (suc k) e = absurd (omega (arith, e))
  last-bound (part t (part u ps)) zero e = absurd (omega (arith, e))
  last-bound (part t (part u ps)) (suc k) e = last-bound (part u ps) k (omega (arith, e))
  last-bound (part t (gap ps)) zero e = absurd (omega (arith, e))
  last-bound (part t (gap ps)) (suc k) e = last-bound (gap ps) k (omega (arith, e))
  last-bound (gap none) zero e = refl
  last-bound (gap none) (suc k) e = absurd (omega (arith, e))
  last-bound (gap (part u ps)) zero e = absurd (omega (arith, e))
  last-bound (gap (part u ps)) (suc k) e = last-bound (part u ps) k (omega (arith, e))
  last-bound (gap (gap ps)) zero e = absurd (omega (arith, e))
  last-bound (gap (gap ps)) (suc k) e = last-bound (gap ps) k (omega (arith, e))

  less : (k : ℕ) → k ≡ k + 1 - 1
  less k = omega arith

  pub last_bound_names-at : (ps : Parts) → last_bound_names f ps ≡ at_part (bound_names f) (part_at ps (part_count ps - 1))
  unfolding last_bound_names
  last_bound_names-at none = refl
  last_bound_names-at (part t ps) = last-bound (part t ps) (part_count ps) (add-one (part_count ps)) ∙ ap (λ k. at_part (bound_names f) (part_at (part t ps) k)) (less (part_count ps))
  last_bound_names-at (gap ps) = last-bound (gap ps) (part_count ps) (add-one (part_count ps)) ∙ ap (λ k. at_part (bound_names f) (part_at (gap ps) k)) (less (part_count ps))

  abbrev given_by : PatternNames → Tree → List B
  given_by Name t = f t ∷ []
  given_by AllParts t = each_part (bound_names f) (parts_of t)
  given_by FirstPart t = at_part (bound_names f) (part_at (parts_of t) 0)
  given_by LastPart t = at_part (bound_names f) (part_at (parts_of t) (part_count (parts_of t) - 1))
  given_by Nothing t = []

  names_by_kind : (t : Tree) → bound_names f t ≡ given_by (pattern_of (kind_of t)) t
  unfolding bound_names
  names_by_kind (node Identifier w g s e ps) = refl
  names_by_kind (node ArrayPattern w g s e ps) = all_bound_names-each ps
  names_by_kind (node ObjectPattern w g s e ps) = all_bound_names-each ps
  names_by_kind (node RestElement w g s e ps) = all_bound_names-each ps
  names_by_kind (node AssignmentPattern w g s e ps) = first_bound_names-at ps
  names_by_kind (node Property w g s e ps) = last_bound_names-at ps
  names_by_kind (node _ w g s e ps) = refl

  pub names_given : (t : Tree) (k : Kind) (p : PatternNames) → k ≡ kind_of t → p ≡ pattern_of k → bound_names f t ≡ given_by p t
  names_given t k p e h = names_by_kind t ∙ ap (λ x. given_by x t) (sym (h ∙ ap pattern_of e))
