-- Two trees that are the same but for places have the same wrapped nodes and the same layout.
use Rattle.std.proofs.Common.{◌≡◌, ℕ, suc, ◌+◌, Bool, true, false, not, cond, ◌&&◌, List, [], ◌∷◌, ◌++◌, refl, sym, ap, ◌∙◌}
use Rattle.std.specs.Prelude.{nat_eq, codes, None, Some}
use Rattle.tree.specs.Tree.{Tree, node, Parts, none, part, gap, bare, bare_parts, SameTree}
use Rattle.language.specs.declared.Rank.TheVariants.{Expression}
use Rattle.language.specs.declared.Start.TheVariants.{Any}
use Rattle.language.specs.Pieces.{Role, expr, script, PieceOf}
use Rattle.language.specs.Grammar.{ways}
use Rattle.language.specs.RowPositions.{has_row, rows, parts_rows, roles, first_roles, widest}
use Rattle.language.specs.Cost.{cell, cell_position, add_cost, if_any, parts_least}
use Rattle.language.specs.Layout.{exceeds, some_way, wants_pair, inside, wrapped_rows, parts_wrapped, has_number, lead_text, lead_depth, after_part, first_way, next_role, layout, parts_layout, fixed_text}
use Rattle.language.proofs.lower_bound.LeastPairs.{ways-bare, parts_least-bare}

abbrev anywhere : Role
anywhere = expr Expression true Any

mutual
  unfolding rows parts_rows

  pub rows-bare : (n : Tree) (a : Role) → rows (bare n) a ≡ rows n a
  rows-bare (node k w g s e ps) a =
      ap (λ x. has_row a + parts_rows (bare_parts ps) (first_roles x)) (ways-bare (widest a) (node k w g s e ps)) ∙
      ap (λ x. has_row a + x) (parts_rows-bare ps (first_roles (ways (widest a) (node k w g s e ps))))

  pub parts_rows-bare : (ps : Parts) (xs : List Role) → parts_rows (bare_parts ps) xs ≡ parts_rows ps xs
  parts_rows-bare none xs = refl
  parts_rows-bare (gap ps) xs = parts_rows-bare ps xs
  parts_rows-bare (part n ps) [] = refl
  parts_rows-bare (part n ps) (a ∷ xs) = λ i. rows-bare n a i + parts_rows-bare ps xs i

pub cell-bare : (n : Tree) (a : Role) → cell (bare n) a ≡ cell n a
unfolding cell
cell-bare (node k w g s e ps) a =
    ap (λ x. if_any x (parts_least (bare_parts ps) (first_roles x))) (ways-bare a (node k w g s e ps)) ∙
    ap (λ x. if_any (ways a (node k w g s e ps)) x) (parts_least-bare ps (first_roles (ways a (node k w g s e ps))))

pub wants-bare : (n : Tree) (a : Role) → wants_pair (bare n) a ≡ wants_pair n a
wants-bare n (expr y i f) = λ j. exceeds (cond (some_way (ways-bare (expr y i f) n j)) (cell-bare n (cell_position (expr y i f)) j) None) (add_cost (Some 1) (cell-bare n anywhere j))
wants-bare n a = refl

mutual
  unfolding wrapped_rows parts_wrapped

  pub wrapped-bare : (n : Tree) (a : Role) (r : ℕ) → wrapped_rows (bare n) a r ≡ wrapped_rows n a r
  wrapped-bare (node k w g s e ps) a r =
      let n = node k w g s e ps in
      ap (λ b. cond b (r ∷ []) [] ++ parts_wrapped (bare_parts ps) (first_roles (ways (inside b a) (bare n))) (has_row a + r)) (wants-bare n a) ∙
      ap (λ x. cond (wants_pair n a) (r ∷ []) [] ++ parts_wrapped (bare_parts ps) (first_roles x) (has_row a + r)) (ways-bare (inside (wants_pair n a) a) n) ∙
      ap (λ x. cond (wants_pair n a) (r ∷ []) [] ++ x) (parts_wrapped-bare ps (first_roles (ways (inside (wants_pair n a) a) n)) (has_row a + r))

  pub parts_wrapped-bare : (ps : Parts) (xs : List Role) (r : ℕ) → parts_wrapped (bare_parts ps) xs r ≡ parts_wrapped ps xs r
  parts_wrapped-bare none xs r = refl
  parts_wrapped-bare (gap ps) xs r = parts_wrapped-bare ps xs r
  parts_wrapped-bare (part n ps) [] r = refl
  parts_wrapped-bare (part n ps) (a ∷ xs) r = λ i. wrapped-bare n a r i ++ (ap (λ x. parts_wrapped (bare_parts ps) xs (r + x)) (rows-bare n a) ∙ parts_wrapped-bare ps xs (r + rows n a)) i

mutual
  unfolding layout parts_layout

  pub layout-bare : (W : ℕ → Bool) (n : Tree) (a : Role) (r d : ℕ) → layout W (bare n) a r d ≡ layout W n a r d
  layout-bare W (node k w g s e ps) a r d =
      let n = node k w g s e ps in
      λ i. cond (nat_eq (has_row a) 1 && W r)
      (codes "(" ++ (ap (λ x. parts_layout W (bare_parts ps) (first_way x) (suc r) d false) (ways-bare anywhere n) ∙ parts_layout-bare W ps (first_way (ways anywhere n)) (suc r) d false) i ++ codes ")")
      ((ap (λ x. parts_layout W (bare_parts ps) (first_way x) (has_row a + r) d false) (ways-bare a n) ∙ parts_layout-bare W ps (first_way (ways a n)) (has_row a + r) d false) i)

  pub parts_layout-bare : (W : ℕ → Bool) (ps : Parts) (qs : List (PieceOf Role)) (r d : ℕ) (b : Bool) → parts_layout W (bare_parts ps) qs r d b ≡ parts_layout W ps qs r d b
  parts_layout-bare W none qs r d b = refl
  parts_layout-bare W (gap ps) qs r d b = ap (λ x. lead_text d b qs x) (parts_layout-bare W ps (after_part qs) r (lead_depth d qs) false)
  parts_layout-bare W (part n ps) qs r d b =
      let a = next_role (roles qs) in
      λ i. lead_text d b qs (layout-bare W n a r (lead_depth d qs) i ++ (ap (λ x. parts_layout W (bare_parts ps) (after_part qs) (r + x) (lead_depth d qs) (not (W r))) (rows-bare n a) ∙ parts_layout-bare W ps (after_part qs) (r + rows n a) (lead_depth d qs) (not (W r))) i)

fixed-bare : (n : Tree) → fixed_text (bare n) ≡ fixed_text n
unfolding fixed_text
fixed-bare n = ap (λ x. layout (has_number x) (bare n) script 1 0) (wrapped-bare n script 1) ∙ layout-bare (has_number (wrapped_rows n script 1)) n script 1 0

pub same_wrapped : (m n : Tree) → SameTree m n → wrapped_rows m script 1 ≡ wrapped_rows n script 1
same_wrapped m n h = sym (wrapped-bare m script 1) ∙ ap (λ x. wrapped_rows x script 1) h ∙ wrapped-bare n script 1

pub same_layout : (m n : Tree) → SameTree m n → fixed_text m ≡ fixed_text n
same_layout m n h = sym (fixed-bare m) ∙ ap fixed_text h ∙ fixed-bare n
