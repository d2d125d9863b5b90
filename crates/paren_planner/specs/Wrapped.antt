-- Of each row in a node, in the order of the rows, whether its node is wrapped.
use Rattle.std.specs.Prelude.{ℕ, Bool, false, cond, List, [], ◌∷◌, ◌++◌, replicate}
use Rattle.tree.specs.Tree.{Tree, node, Parts, none, part, gap, parts_of}
use Rattle.language.specs.Pieces.{Role, expr}
use Rattle.language.specs.Grammar.{ways}
use Rattle.language.specs.RowPositions.{first_roles, widest, parts_rows}
use Rattle.language.specs.Layout.{some_way, wants_pair, inside}

-- at an expression's position
abbrev pub own_flag : Role → Bool → List Bool
own_flag (expr y i f) b = b ∷ []
own_flag _ b = []

-- none is wrapped
abbrev pub unwrapped : ℕ → List Bool
unwrapped m = replicate m false

unfoldable mutual
  pub flags : Tree → Role → List Bool
  flags (node k w g s e ps) a =
      let b = wants_pair (node k w g s e ps) a in
      let c = inside b a in
      own_flag a b ++ cond (some_way (ways c (node k w g s e ps))) (parts_flags ps (first_roles (ways c (node k w g s e ps)))) (unwrapped (parts_rows ps (first_roles (ways (widest a) (node k w g s e ps)))))

  pub parts_flags : Parts → List Role → List Bool
  parts_flags none xs = []
  parts_flags (gap ps) xs = parts_flags ps xs
  parts_flags (part n ps) [] = []
  parts_flags (part n ps) (a ∷ xs) = flags n a ++ parts_flags ps xs

-- below a node at a position where it is spelled directly, or isn't
unfoldable pub inner_flags : Tree → Role → List Bool
inner_flags n a = cond (some_way (ways a n)) (parts_flags (parts_of n) (first_roles (ways a n))) (unwrapped (parts_rows (parts_of n) (first_roles (ways (widest a) n))))
