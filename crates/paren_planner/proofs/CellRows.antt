-- The rows of a table are those of the definition: of each node its kind and its cells.
use Rattle.std.proofs.Common.{◌≡◌, ◌≤◌, true, false, List, [], ◌∷◌, ◌++◌, refl, sym, ap, ap₂, ◌∙◌, subst, arith}
use Rattle.std.specs.Prelude.{map}
use Rattle.std.proofs.lemmas.Bool.{and_parts}
use Rattle.std.proofs.lemmas.List.{map-append}
use Rattle.tree.specs.Tree.{Tree, node, Parts, none, part, gap, kind_of, parts_of}
use Rattle.language.specs.declared.Rank.TheVariants.{Expression, Member}
use Rattle.language.specs.declared.Start.TheVariants.{Any, NoBrace, Statement}
use Rattle.language.specs.Pieces.{Role, expr, script}
use Rattle.language.specs.Grammar.{ways}
use Rattle.language.specs.RowPositions.{first_roles, widest, rows, parts_rows}
use Rattle.language.specs.Cost.{cell, cells}
use Rattle.language.specs.Claims.{row_nodes, parts_row_nodes}
use Rattle.spellings.proofs.Slots.{is_wide, all_pass, parts_wide}
use Rattle.cost_table.specs.Costs.{capped, cells_at}
use Rattle.cost_table.specs.Rows.{row_of, shown, celled, table_rows, parts_table}
use Rattle.cost_table.proofs.RowNodes.{wide_itself, wide_start}
use Rattle.paren_planner.proofs.Bounds.{below_more, cell_below, capped_below}

-- below the limit each cell is held as it is
held : (n : Tree) (b : Role) → widest b ≡ expr Expression true Any → parts_rows (parts_of n) (first_roles (ways (expr Expression true Any) n)) ≤ 16777216 → capped (cell n b) ≡ cell n b
held n b w l = capped_below (below_more (cell_below n b) (subst (λ u. parts_rows (parts_of n) (first_roles (ways u n)) ≤ 16777216) (sym w) l))

pub row_shown : (n : Tree) → parts_rows (parts_of n) (first_roles (ways (expr Expression true Any) n)) ≤ 16777216 → shown (row_of n) ≡ celled n
unfolding row_of cells_at cells
row_shown n l = λ j. (
  kind_of n,
  held n (expr Expression true Any) refl l j ∷ held n (expr Expression true NoBrace) refl l j ∷ held n (expr Expression true Statement) refl l j ∷
      held n (expr Expression false Any) refl l j ∷ held n (expr Expression false NoBrace) refl l j ∷
      held n (expr Member true Any) refl l j ∷ held n (expr Member true NoBrace) refl l j ∷ held n (expr Member true Statement) refl l j ∷ [],
)

row_first : (n : Tree) (ps : Parts) (X : List Rattle.cost_table.specs.declared.table.Row.Row) (Y : List Tree) → shown (row_of n) ≡ celled n → map shown X ≡ map celled Y → map shown (row_of n ∷ X) ≡ map celled (n ∷ Y)
row_first n ps X Y h e = λ j. h j ∷ e j

mutual
  unfolding table_rows parts_table row_nodes parts_row_nodes rows parts_rows

  pub rows_shown : (n : Tree) (a : Role) → is_wide a ≡ true → rows n a ≤ 16777216 → map shown (table_rows n a) ≡ map celled (row_nodes n a)
  rows_shown (node k w g s e ps) (expr y i f) h l =
      let xs = first_roles (ways (expr Expression true Any) (node k w g s e ps)) in
      let inner : parts_rows ps xs ≤ 16777216 = omega (arith, l) in
      row_first (node k w g s e ps) ps (parts_table ps xs) (parts_row_nodes ps xs) (row_shown (node k w g s e ps) inner)
      (parts_shown ps xs (parts_wide (expr Expression true Any) (node k w g s e ps) refl) inner)
  rows_shown (node k w g s e ps) a h l =
      let xs = first_roles (ways (widest a) (node k w g s e ps)) in
      let inner : parts_rows ps xs ≤ 16777216 = omega (arith, l) in
      parts_shown ps xs (parts_wide (widest a) (node k w g s e ps) (wide_start a)) inner ∙ ap (λ b. map celled (parts_row_nodes ps (first_roles (ways b (node k w g s e ps))))) (wide_itself a h refl)

  pub parts_shown : (ps : Parts) (xs : List Role) → all_pass is_wide xs ≡ true → parts_rows ps xs ≤ 16777216 → map shown (parts_table ps xs) ≡ map celled (parts_row_nodes ps xs)
  parts_shown none xs h l = refl
  parts_shown (gap ps) xs h l = parts_shown ps xs h l
  parts_shown (part n ps) [] h l = refl
  parts_shown (part n ps) (a ∷ xs) h l =
      map-append shown (table_rows n a) (parts_table ps xs)
      ∙ ap₂ (λ u v. u ++ v) (rows_shown n a (and_parts _ _ h).0 (omega (arith, l))) (parts_shown ps xs (and_parts _ _ h).1 (omega (arith, l)))
      ∙ sym (map-append celled (row_nodes n a) (parts_row_nodes ps xs))

pub script_shown : (n : Tree) → rows n script ≤ 16777216 → map shown (table_rows n script) ≡ map celled (row_nodes n script)
script_shown n l = rows_shown n script refl l
