-- The places of scopes: where in the text the names of each count. A scope is round all of a node, or round what stands behind its first
-- part: the parameters and the body of a function, what stands behind a class's name, the cases of a `switch`.
use Rattle.std.specs.Prelude.{ℕ, Bool, true, false, ◌+◌, ◌-◌, ◌&&◌, ◌||◌, nat_le, nat_lt, List, [], ◌∷◌, ◌++◌, Option, Some, None, is_some}
use Rattle.tree.specs.Tree.{Tree, node, Parts, none, part, gap, stop_of, part_at, part_count}
use Rattle.scopes.specs.declared.identifier_use.IdentifierUse.{IdentifierUse}
use Rattle.scopes.specs.declared.identifier_use.IdentifierUse.TheVariants.{Read}
use Rattle.scopes.specs.Roles.{part_role}
use Rattle.scopes.specs.Bindings.{Binding}
use Rattle.scopes.specs.Openings.{scope_round_all, scope_round_others}

-- where it starts and where it ends
abbrev pub SourceRange : Type 0
SourceRange = ℕ × ℕ

-- the place of the scope that declares these names, if there is one
abbrev pub range_of : Option (List Binding) → ℕ → ℕ → List SourceRange
range_of None from to = []
range_of (Some xs) from to = (from, to) ∷ []

unfoldable mutual
  -- the places of the scopes in a node with this role, in the order of the scopes
  pub ranges_in : IdentifierUse → Tree → List SourceRange
  ranges_in u (node k w g s e ps) = range_of (scope_round_all u k ps) s e ++ ranges_in_all (part_role u k w g (is_some (part_at ps (part_count ps - 1))) (part_count ps - 1)) (scope_round_others k ps) s e ps

  -- in all parts, which have these roles: in the first, and in the others within their scope
  pub ranges_in_all : (ℕ → IdentifierUse) → Option (List Binding) → ℕ → ℕ → Parts → List SourceRange
  ranges_in_all r b s e none = range_of b s e
  ranges_in_all r b s e (gap ps) = range_of b s e ++ ranges_from r 1 ps
  ranges_in_all r b s e (part t ps) = ranges_in (r 0) t ++ (range_of b (stop_of t) e ++ ranges_from r 1 ps)

  -- in parts, the first of which stands at this place among all
  pub ranges_from : (ℕ → IdentifierUse) → ℕ → Parts → List SourceRange
  ranges_from r i none = []
  ranges_from r i (gap ps) = ranges_from r (i + 1) ps
  ranges_from r i (part t ps) = ranges_in (r i) t ++ ranges_from r (i + 1) ps

-- of a script's scopes, by their numbers
abbrev pub scope_ranges : Tree → List SourceRange
scope_ranges t = ranges_in Read t

-- what comes later stands within what comes first, or behind it
abbrev pub follows : SourceRange → SourceRange → Bool
follows x y = nat_le x.1 y.0 || (nat_le x.0 y.0 && nat_le y.1 x.1)

abbrev pub all_follow : SourceRange → List SourceRange → Bool
all_follow x [] = true
all_follow x (y ∷ ys) = follows x y && all_follow x ys

-- outer before inner, and the others in order
abbrev pub are_nested : List SourceRange → Bool
are_nested [] = true
are_nested (x ∷ xs) = all_follow x xs && are_nested xs

-- from a place on, each where the one before it ends or behind it, none of them empty
abbrev pub are_disjoint_from : ℕ → List SourceRange → Bool
are_disjoint_from from [] = true
are_disjoint_from from (x ∷ xs) = nat_le from x.0 && (nat_lt x.0 x.1 && are_disjoint_from x.1 xs)

-- a part of the text within a place, if there is one
abbrev pub is_within : Option SourceRange → ℕ → ℕ → Bool
is_within None s e = false
is_within (Some x) s e = nat_le x.0 s && nat_le e x.1
