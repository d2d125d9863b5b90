-- Which nodes are wrapped, and the text of a tree.
use Rattle.std.specs.Prelude.{ℕ, suc, ◌+◌, Bool, true, false, not, cond, ◌&&◌, ◌||◌, List, [], ◌∷◌, ◌++◌, nat_lt, nat_eq, slice_index_or, codes, replicate, Option, Some, None}
use Rattle.language.specs.declared.Rank.TheVariants.{Expression}
use Rattle.language.specs.declared.Start.TheVariants.{Any}
use Rattle.tree.specs.Tree.{Tree, node, Parts, none, part, gap}
use Rattle.language.specs.Pieces.{Role, expr, script, PieceOf, tok, ending, open_parameters, close_parameters, sub, absent, lay, space, line, feed, deeper, shallower, apart, loose}
use Rattle.language.specs.Grammar.{ways}
use Rattle.language.specs.RowPositions.{has_row, rows, roles, first_roles}
use Rattle.language.specs.Cost.{cell, cell_position, add_cost}

-- none is greater than any number
abbrev pub exceeds : Option ℕ → Option ℕ → Bool
exceeds None y = true
exceeds (Some m) None = false
exceeds (Some m) (Some n) = nat_lt n m

abbrev pub some_way : List (List (PieceOf Role)) → Bool
some_way [] = false
some_way (qs ∷ others) = true

-- at its position its direct cost is none, or greater than that of a pair round it
abbrev pub wants_pair : Tree → Role → Bool
wants_pair tree (expr rank has_in start) =
    exceeds (cond (some_way (ways (expr rank has_in start) tree)) (cell tree (cell_position (expr rank has_in start))) None) (add_cost (Some 1) (cell tree (expr Expression true Any)))
wants_pair tree role = false

abbrev pub inside : Bool → Role → Role
inside wrapped role = cond wrapped (expr Expression true Any) role

unfoldable mutual
  -- the rows of the wrapped nodes, from the outermost inwards
  pub wrapped_rows : Tree → Role → ℕ → List ℕ
  wrapped_rows (node kind text flags from to parts) role r =
      let b = wants_pair (node kind text flags from to parts) role in
      cond b (r ∷ []) [] ++ parts_wrapped parts (first_roles (ways (inside b role) (node kind text flags from to parts))) (has_row role + r)

  pub parts_wrapped : Parts → List Role → ℕ → List ℕ
  parts_wrapped none xs r = []
  parts_wrapped (gap rest) xs r = parts_wrapped rest xs r
  parts_wrapped (part tree rest) [] r = []
  parts_wrapped (part tree rest) (a ∷ xs) r = wrapped_rows tree a r ++ parts_wrapped rest xs (r + rows tree a)

abbrev pub has_number : List ℕ → ℕ → Bool
has_number [] r = false
has_number (x ∷ xs) r = nat_eq x r || has_number xs r

abbrev pub indent : ℕ → List ℕ
indent d = replicate (d + d) 32

-- pieces up to the next part, with the text that follows them; b says that the part before is not wrapped
abbrev pub lead_text : ℕ → Bool → List (PieceOf Role) → List ℕ → List ℕ
lead_text d b [] next = next
lead_text d b (sub a ∷ qs) next = next
lead_text d b (absent ∷ qs) next = next
lead_text d b (tok c w ∷ qs) next = w ++ lead_text d b qs next
lead_text d b (ending e ∷ qs) next = codes ";" ++ lead_text d b qs next
lead_text d b (open_parameters ∷ qs) next = codes "(" ++ lead_text d b qs next
lead_text d b (close_parameters ∷ qs) next = codes ")" ++ lead_text d b qs next
lead_text d b (lay space ∷ qs) next = 32 ∷ lead_text d b qs next
lead_text d b (lay line ∷ qs) next = 10 ∷ (indent d ++ lead_text d b qs next)
lead_text d b (lay feed ∷ qs) next = 10 ∷ lead_text d b qs next
lead_text d b (lay deeper ∷ qs) next = lead_text (suc d) b qs next
lead_text (suc d) b (lay shallower ∷ qs) next = lead_text d b qs next
lead_text d b (lay (apart c) ∷ qs) next = let rest = lead_text d b qs next in cond (nat_eq (slice_index_or rest 0 0) c) (32 ∷ rest) rest
lead_text d b (lay loose ∷ qs) next = let rest = lead_text d b qs next in cond b (32 ∷ rest) rest
lead_text d b (_ ∷ qs) next = lead_text d b qs next

abbrev pub lead_depth : ℕ → List (PieceOf Role) → ℕ
lead_depth d (lay deeper ∷ qs) = lead_depth (suc d) qs
lead_depth (suc d) (lay shallower ∷ qs) = lead_depth d qs
lead_depth d (sub a ∷ qs) = d
lead_depth d (absent ∷ qs) = d
lead_depth d (q ∷ qs) = lead_depth d qs
lead_depth d [] = d

-- what follows the next part or gap
abbrev pub after_part : List (PieceOf Role) → List (PieceOf Role)
after_part [] = []
after_part (sub a ∷ qs) = qs
after_part (absent ∷ qs) = qs
after_part (q ∷ qs) = after_part qs

abbrev pub first_way : List (List (PieceOf Role)) → List (PieceOf Role)
first_way [] = []
first_way (qs ∷ others) = qs

abbrev pub next_role : List Role → Role
next_role [] = script
next_role (a ∷ xs) = a

unfoldable mutual
  -- the text of a node at a position, with these nodes wrapped, at a depth of two spaces each
  pub layout : (ℕ → Bool) → Tree → Role → ℕ → ℕ → List ℕ
  layout W (node kind text flags from to parts) role r d =
      let b = W r in
      cond (nat_eq (has_row role) 1 && b)
      (codes "(" ++ parts_layout W parts (first_way (ways (expr Expression true Any) (node kind text flags from to parts))) (suc r) d false ++ codes ")")
      (parts_layout W parts (first_way (ways role (node kind text flags from to parts))) (has_row role + r) d false)

  pub parts_layout : (ℕ → Bool) → Parts → List (PieceOf Role) → ℕ → ℕ → Bool → List ℕ
  parts_layout W none qs r d b = lead_text d b qs []
  parts_layout W (gap rest) qs r d b = lead_text d b qs (parts_layout W rest (after_part qs) r (lead_depth d qs) false)
  parts_layout W (part tree rest) qs r d b =
      let a = next_role (roles qs) in
      lead_text d b qs (layout W tree a r (lead_depth d qs) ++ parts_layout W rest (after_part qs) (r + rows tree a) (lead_depth d qs) (not (W r)))

-- the fixed text
unfoldable pub fixed_text : Tree → List ℕ
fixed_text tree = layout (has_number (wrapped_rows tree script 1)) tree script 1 0
