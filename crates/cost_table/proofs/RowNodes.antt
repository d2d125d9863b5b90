-- The nodes that have rows, in source order, and the widest positions, at which they stand.
use Rattle.std.proofs.Common.{◌≡◌, ℕ, zero, suc, ◌+◌, Bool, true, List, [], ◌∷◌, ◌++◌, length, Some, refl, sym, ap, ap₂, ◌∙◌, arith}
use Rattle.std.specs.Prelude.{slice_get}
use Rattle.std.proofs.lemmas.Bool.{and_parts}
use Rattle.std.proofs.lemmas.List.{length-append}
use Rattle.tree.specs.Tree.{Tree, node, Parts, none, part, gap}
use Rattle.language.specs.declared.Rank.TheVariants.{Expression}
use Rattle.language.specs.declared.Start.{Start}
use Rattle.language.specs.declared.Start.TheVariants.{Any, NoBrace, Statement}
use Rattle.language.specs.Pieces.{Role, expr, chain_part, pattern}
use Rattle.language.specs.Grammar.{ways, own_start}
use Rattle.language.specs.RowPositions.{first_roles, widest, has_row, rows, parts_rows}
use Rattle.language.specs.Claims.{row_nodes, parts_row_nodes}
use Rattle.spellings.proofs.Slots.{is_wide, all_pass, parts_wide}

any_spine : (f : Start) → is_wide (chain_part f) ≡ true → chain_part Any ≡ chain_part f
any_spine Any h = refl
any_spine NoBrace h = absurd (cc)
any_spine Statement h = absurd (cc)

any_pattern : (b : Bool) (f : Start) → is_wide (pattern b f) ≡ true → pattern b Any ≡ pattern b f
any_pattern b Any h = refl
any_pattern b NoBrace h = absurd (cc)
any_pattern b Statement h = absurd (cc)

pub wide_itself : (a : Role) → is_wide a ≡ true → has_row a ≡ 0 → widest a ≡ a
wide_itself (expr y i f) h e = absurd (cc)
wide_itself (chain_part f) h e = any_spine f h
wide_itself (pattern b f) h e = any_pattern b f h
wide_itself _ h e = refl

pub wide_start : (a : Role) → own_start (widest a) ≡ Any
wide_start (expr y i f) = refl
wide_start (chain_part f) = refl
wide_start (pattern b f) = refl
wide_start _ = refl

-- an element of two lists is one of the first or of the second
pub split_at : (xs ys : List Tree) (r : ℕ) (m : Tree) (G : Type 0) → slice_get (xs ++ ys) r ≡ Some m → (slice_get xs r ≡ Some m → G) → ((q : ℕ) → length xs + q ≡ r → slice_get ys q ≡ Some m → G) → G
split_at [] ys r m G h f g = g r (let e : 0 + r ≡ r = omega arith in e) h
split_at (x ∷ xs) ys zero m G h f g = f h
split_at (x ∷ xs) ys (suc r) m G h f g = split_at xs ys r m G h f (λ q e i. g q (let z : suc (length xs) + q ≡ suc r = omega (arith, e) in z) i)

mutual
  unfolding row_nodes rows parts_rows

  pub nodes-length : (n : Tree) (a : Role) → is_wide a ≡ true → length (row_nodes n a) ≡ rows n a
  nodes-length (node j w g s e ps) (expr y i f) h =
      let u : length (parts_row_nodes ps (first_roles (ways (expr Expression true Any) (node j w g s e ps)))) ≡ parts_rows ps (first_roles (ways (expr Expression true Any) (node j w g s e ps))) =
      parts-nodes-length ps (first_roles (ways (expr Expression true Any) (node j w g s e ps))) (parts_wide (expr Expression true Any) (node j w g s e ps) refl) in
      omega (arith, u)
  nodes-length (node j w g s e ps) a h =
      let u : length (parts_row_nodes ps (first_roles (ways a (node j w g s e ps)))) ≡ parts_rows ps (first_roles (ways a (node j w g s e ps))) =
      parts-nodes-length ps (first_roles (ways a (node j w g s e ps))) (parts_wide a (node j w g s e ps) (ap own_start (sym (wide_itself a h refl)) ∙ wide_start a)) in
      let v : parts_rows ps (first_roles (ways a (node j w g s e ps))) ≡ parts_rows ps (first_roles (ways (widest a) (node j w g s e ps))) = ap (λ b. parts_rows ps (first_roles (ways b (node j w g s e ps)))) (sym (wide_itself a h refl)) in
      omega (arith, u, v)

  parts-nodes-length : (ps : Parts) (xs : List Role) → all_pass is_wide xs ≡ true → length (parts_row_nodes ps xs) ≡ parts_rows ps xs
  parts-nodes-length none xs h = refl
  parts-nodes-length (gap ps) xs h = parts-nodes-length ps xs h
  parts-nodes-length (part n ps) [] h = refl
  parts-nodes-length (part n ps) (a ∷ xs) h =
      length-append (row_nodes n a) (parts_row_nodes ps xs) ∙ ap₂ (λ u v. u + v) (nodes-length n a (and_parts _ _ h).0) (parts-nodes-length ps xs (and_parts _ _ h).1)
