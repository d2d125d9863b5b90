-- The names that a pattern or a target binds, in the order of the tree.
use Rattle.std.specs.Prelude.{List, [], ◌∷◌, ◌++◌}
use Rattle.tree.specs.declared.kind.Kind.TheVariants.{Identifier, ArrayPattern, ObjectPattern, AssignmentPattern, RestElement, Property}
use Rattle.tree.specs.Tree.{Tree, node, Parts, none, part, gap}

-- what each part gives
abbrev pub each_part {ℓ} : {B : Type ℓ} → (Tree → List B) → Parts → List B
each_part f none = []
each_part f (part t ps) = f t ++ each_part f ps
each_part f (gap ps) = each_part f ps

unfoldable mutual
  -- the identifiers that a pattern or a target binds (BoundNames, 12.1.2, 13.3.3.1), each as what `f` makes of it
  pub bound_names : {B : Type 0} → (Tree → B) → Tree → List B
  bound_names f (node Identifier w g s e ps) = f (node Identifier w g s e ps) ∷ []
  bound_names f (node ArrayPattern w g s e ps) = all_bound_names f ps
  bound_names f (node ObjectPattern w g s e ps) = all_bound_names f ps
  bound_names f (node RestElement w g s e ps) = all_bound_names f ps
  bound_names f (node AssignmentPattern w g s e ps) = first_bound_names f ps
  bound_names f (node Property w g s e ps) = last_bound_names f ps
  bound_names f (node _ w g s e ps) = []

  pub all_bound_names : {B : Type 0} → (Tree → B) → Parts → List B
  all_bound_names f none = []
  all_bound_names f (part t ps) = bound_names f t ++ all_bound_names f ps
  all_bound_names f (gap ps) = all_bound_names f ps

  pub first_bound_names : {B : Type 0} → (Tree → B) → Parts → List B
  first_bound_names f none = []
  first_bound_names f (part t ps) = bound_names f t
  first_bound_names f (gap ps) = []

  pub last_bound_names : {B : Type 0} → (Tree → B) → Parts → List B
  last_bound_names f none = []
  last_bound_names f (part t none) = bound_names f t
  last_bound_names f (part t (part u ps)) = last_bound_names f (part u ps)
  last_bound_names f (part t (gap ps)) = last_bound_names f ps
  last_bound_names f (gap ps) = last_bound_names f ps
