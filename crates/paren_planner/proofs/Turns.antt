-- Rows and flags of a node, as a pass over the steps of a walk meets them.
use Rattle.std.proofs.Common.{◌≡◌, ℕ, suc, ◌+◌, ◌≤◌, Bool, true, false, cond, List, [], ◌∷◌, ◌++◌, length, drop, Option, Some, None, refl, sym, ap, ap₂, ◌∙◌, subst, append_assoc, arith}
use Rattle.std.specs.Prelude.{◌&&◌, IsSome}
use Rattle.std.proofs.lemmas.List.{length-append, drop-drop, drop_at}
use Rattle.tree.specs.Tree.{Tree, node, Parts, none, part, gap, parts_of}
use Rattle.language.specs.declared.Rank.TheVariants.{Expression}
use Rattle.language.specs.declared.Start.TheVariants.{Any}
use Rattle.language.specs.Pieces.{Role, expr}
use Rattle.language.specs.Grammar.{ways}
use Rattle.language.specs.RowPositions.{first_roles, widest, has_row, rows, parts_rows}
use Rattle.language.specs.Layout.{some_way, exceeds, wants_pair, inside}
use Rattle.language.specs.Cost.{add_cost, cell, cell_position}
use Rattle.spelling_table.specs.Requirements.{fits_outline}
use Rattle.spellings.specs.Spelled.{settled_roles, Verdict}
use Rattle.spellings.specs.Remaining.{left}
use Rattle.spellings.specs.Wherever.{NodeSpelling, spelled_roles, IsSpelledWherever}
use Rattle.spellings.proofs.SlotSteps.{spelled_here}
use Rattle.cost_table.specs.declared.costs.Costs as own
use Rattle.cost_table.specs.declared.table.Row.{Row}
use Rattle.cost_table.specs.Costs.{capped_sum, cells_at}
use Rattle.cost_table.specs.Weighed.{cost_of, fits_spelled}
use Rattle.cost_table.specs.Rows.{row_of, is_expression, own_row, table_rows, parts_table}
use Rattle.paren_planner.specs.Wrapped.{unwrapped, flags, parts_flags, inner_flags}
use Rattle.cost_table.proofs.Known.{fits_widest, counted}
use Rattle.cost_table.proofs.NodeRowNumbers.{way_when}
use Rattle.paren_planner.proofs.Bounds.{Below, below_more, cell_below, widest-cell, capped_below, sum_below, rows_inner}
use Rattle.paren_planner.proofs.WrappedRows.{parts-rows, widest_own, rows-empty}

-- Rows from a place on

-- these rows stand in a table from a place on
pub record HasRows (table : List Row) (at : ℕ) (rows : List Row) : Type 0 where
  pub rest : List Row
  pub stand : drop at table ≡ rows ++ rest

pub front_rows : (t : List Row) (k : ℕ) (xs ys : List Row) → HasRows t k (xs ++ ys) → HasRows t k xs
front_rows t k xs ys h = record { rest = ys ++ h.rest; stand = h.stand ∙ append_assoc xs ys h.rest }

pub rows_behind : (t : List Row) (k m : ℕ) (xs ys : List Row) → m ≡ k + length xs → HasRows t k (xs ++ ys) → HasRows t m ys
rows_behind t k m xs ys e h = record {
  rest = h.rest;
  stand = ap (λ i. drop i t) e ∙ sym (drop-drop (length xs) k t) ∙ ap (drop (length xs)) (h.stand ∙ append_assoc xs ys h.rest) ∙ drop_at xs (ys ++ h.rest) (length xs) refl;
}

pub own-row-length : (a : Role) (r : Row) → length (own_row a r) ≡ has_row a
own-row-length (expr y i f) r = refl
own-row-length _ r = refl

mutual
  unfolding table_rows parts_table rows parts_rows

  pub table-length : (n : Tree) (a : Role) → length (table_rows n a) ≡ rows n a
  table-length (node k w g s e ps) a = length-append (own_row a (row_of (node k w g s e ps))) _ ∙ ap₂ (λ u v. u + v) (own-row-length a (row_of (node k w g s e ps))) (parts-table-length ps (first_roles (ways (widest a) (node k w g s e ps))))

  pub parts-table-length : (ps : Parts) (xs : List Role) → length (parts_table ps xs) ≡ parts_rows ps xs
  parts-table-length none xs = refl
  parts-table-length (gap ps) xs = parts-table-length ps xs
  parts-table-length (part n ps) [] = refl
  parts-table-length (part n ps) (a ∷ xs) = length-append (table_rows n a) (parts_table ps xs) ∙ ap₂ (λ u v. u + v) (table-length n a) (parts-table-length ps xs)

-- Below a node

widely_known : (b : Role) (n : Tree) (x : NodeSpelling) → IsSpelledWherever b n (Some x) → first_roles (ways (widest b) n) ≡ settled_roles (widest b) (left x.slots)
widely_known b n x h =
    let v : Verdict (ways (widest b) n) (spelled_roles (widest b) (Some x)) = subst (λ u. Verdict (ways u n) (spelled_roles u (Some x))) (widest_own b) (h Expression true Any) in
    let w : Verdict (ways (widest b) n) (Some (settled_roles (widest b) (left x.slots))) = subst (λ u. Verdict (ways (widest b) n) (cond u (Some (settled_roles (widest b) (left x.slots))) None)) (fits_widest b x.outline) v in
    w.1

pub rows_below : (b : Role) (n : Tree) (x : NodeSpelling) → IsSpelledWherever b n (Some x) → parts_rows (parts_of n) (first_roles (ways (widest b) n)) ≡ parts_rows (parts_of n) (settled_roles b (left x.slots))
rows_below b n x h = ap (parts_rows (parts_of n)) (widely_known b n x h) ∙ parts-rows (parts_of n) (widest b) b (left x.slots)

pub inner_some : (b : Role) (n : Tree) (x : NodeSpelling) (may_wrap : Bool) → IsSpelledWherever b n (Some x) →
    cond (may_wrap && fits_outline b x.outline) (parts_flags (parts_of n) (settled_roles b (left x.slots))) (unwrapped (parts_rows (parts_of n) (settled_roles b (left x.slots))))
    ≡ cond may_wrap (inner_flags n b) (unwrapped (parts_rows (parts_of n) (first_roles (ways (widest b) n))))
unfolding inner_flags
inner_some b n x false h = ap unwrapped (sym (rows_below b n x h))
inner_some b n x true h = of (fits_outline b x.outline) (spelled_here b n (Some x) h)
  where
    of : (v : Bool) → Verdict (ways b n) (cond v (Some (settled_roles b (left x.slots))) None) →
        cond v (parts_flags (parts_of n) (settled_roles b (left x.slots))) (unwrapped (parts_rows (parts_of n) (settled_roles b (left x.slots))))
        ≡ cond (some_way (ways b n)) (parts_flags (parts_of n) (first_roles (ways b n))) (unwrapped (parts_rows (parts_of n) (first_roles (ways (widest b) n))))
    of true k = sym (ap (λ v. cond v (parts_flags (parts_of n) (first_roles (ways b n))) (unwrapped (parts_rows (parts_of n) (first_roles (ways (widest b) n))))) k.0 ∙ ap (parts_flags (parts_of n)) k.1)
    of false k = ap unwrapped (sym (rows_below b n x h)) ∙ sym (ap (λ u. cond (some_way u) (parts_flags (parts_of n) (first_roles u)) (unwrapped (parts_rows (parts_of n) (first_roles (ways (widest b) n))))) k)

pub inner_none : (b : Role) (n : Tree) (may_wrap : Bool) → IsSpelledWherever b n None → [] ≡ cond may_wrap (inner_flags n b) (unwrapped (parts_rows (parts_of n) (first_roles (ways (widest b) n))))
unfolding inner_flags
inner_none b n may_wrap h = of may_wrap
  where
    widely : ways (widest b) n ≡ []
    widely = subst (λ u. ways u n ≡ []) (widest_own b) (h Expression true Any)

    empty : unwrapped (parts_rows (parts_of n) (first_roles (ways (widest b) n))) ≡ []
    empty = ap (λ u. unwrapped (parts_rows (parts_of n) (first_roles u))) widely ∙ ap unwrapped (rows-empty (parts_of n))

    of : (l : Bool) → [] ≡ cond l (cond (some_way (ways b n)) (parts_flags (parts_of n) (first_roles (ways b n))) (unwrapped (parts_rows (parts_of n) (first_roles (ways (widest b) n))))) (unwrapped (parts_rows (parts_of n) (first_roles (ways (widest b) n))))
    of false = sym empty
    of true = sym (ap (λ u. cond (some_way u) (parts_flags (parts_of n) (first_roles u)) (unwrapped (parts_rows (parts_of n) (first_roles (ways (widest b) n))))) (spelled_here b n None h) ∙ empty)

-- A node

pub plain_flags : (n : Tree) (a : Role) (may_wrap : Bool) → is_expression a ≡ false →
    cond may_wrap (inner_flags n a) (unwrapped (parts_rows (parts_of n) (first_roles (ways (widest a) n)))) ≡ cond may_wrap (flags n a) (unwrapped (rows n a))
unfolding inner_flags flags rows
plain_flags (node k w g s e ps) (expr y i f) may_wrap h = absurd (cc)
plain_flags (node k w g s e ps) _ true h = refl
plain_flags (node k w g s e ps) _ false h = ap unwrapped (let m : (m : ℕ) → m ≡ 0 + m = λ m. omega arith in m _)

pub plain_rows : (n : Tree) (a : Role) → is_expression a ≡ false → rows n a ≡ parts_rows (parts_of n) (first_roles (ways (widest a) n))
unfolding rows
plain_rows (node k w g s e ps) (expr y i f) h = absurd (cc)
plain_rows (node k w g s e ps) _ h = let m : (m : ℕ) → 0 + m ≡ m = λ m. omega arith in m _

pub wanted : (n : Tree) (a : Role) (r : Option NodeSpelling) (c : own.Costs) → is_expression a ≡ true → IsSpelledWherever a n r → rows n a ≤ 16777216 → c ≡ cells_at n (expr Expression true Any) →
    exceeds (cond (fits_spelled a r) (cost_of c a) None) (capped_sum (Some 1) c.has_in.any) ≡ wants_pair n a
unfolding cells_at
wanted n (expr y i f) r c h s l e =
    let inner : parts_rows (parts_of n) (first_roles (ways (expr Expression true Any) n)) ≤ 16777216 = omega (arith, rows_inner n y i f, l) in
    let direct : cost_of c (expr y i f) ≡ cell n (cell_position (expr y i f)) =
    counted c n Expression true Any e y i f
    ∙ capped_below (below_more (subst (λ b. Below (cell n (cell_position (expr y i f))) (parts_rows (parts_of n) (first_roles (ways b n)))) (widest-cell y i f) (cell_below n (cell_position (expr y i f)))) inner) in
    let whole : Below (cell n (expr Expression true Any)) 16777216 = below_more (cell_below n (expr Expression true Any)) inner in
    let around : capped_sum (Some 1) c.has_in.any ≡ add_cost (Some 1) (cell n (expr Expression true Any)) =
    ap (λ d. capped_sum (Some 1) d.has_in.any) e ∙ ap (capped_sum (Some 1)) (capped_below whole) ∙ sum_below whole in
    let fit : fits_spelled (expr y i f) r ≡ some_way (ways (expr y i f) n) = sym (way_spelled (expr y i f) n r s) in
    (λ j. exceeds (cond (fit j) (direct j) None) (around j))
  where
    way_spelled : (b : Role) (n : Tree) (r : Option NodeSpelling) → IsSpelledWherever b n r → some_way (ways b n) ≡ fits_spelled b r
    way_spelled b n None k = ap some_way (spelled_here b n None k)
    way_spelled b n (Some x) k = way_when (ways b n) (spelled_roles b (Some x)) (spelled_here b n (Some x) k) (fits_outline b x.outline) (settled_roles b (left x.slots)) refl
wanted n _ r c h s l e = absurd (cc)

pub spelled_inside : (n : Tree) (a : Role) (b : Bool) (r : Option NodeSpelling) → is_expression a ≡ true → IsSpelledWherever a n r → IsSpelledWherever (inside b a) n r
spelled_inside n (expr y i f) true r h s = s
spelled_inside n (expr y i f) false r h s = s
spelled_inside n _ b r h s = absurd (cc)

pub widest_whole : (a : Role) (b : Bool) → is_expression a ≡ true → widest (inside b a) ≡ expr Expression true Any
widest_whole (expr y i f) true h = refl
widest_whole (expr y i f) false h = refl
widest_whole _ b h = absurd (cc)

one_more : (m : ℕ) → unwrapped (1 + m) ≡ false ∷ unwrapped m
one_more m = let e : 1 + m ≡ suc m = omega arith in ap unwrapped e

-- an expression's flag stands before those below it
pub own_flags : (n : Tree) (a : Role) (may_wrap : Bool) (ws vs : List Bool) → is_expression a ≡ true →
    vs ≡ (ws ++ (may_wrap && wants_pair n a) ∷ []) ++ cond may_wrap (inner_flags n (inside (may_wrap && wants_pair n a) a)) (unwrapped (parts_rows (parts_of n) (first_roles (ways (widest (inside (may_wrap && wants_pair n a) a)) n)))) →
    vs ≡ ws ++ cond may_wrap (flags n a) (unwrapped (rows n a))
unfolding inner_flags flags
own_flags (node k w g s e ps) (expr y i f) true ws vs h q =
    q ∙ append_assoc ws (wants_pair (node k w g s e ps) (expr y i f) ∷ []) _
    ∙ ap (λ b. ws ++ wants_pair (node k w g s e ps) (expr y i f) ∷ cond (some_way (ways (inside (wants_pair (node k w g s e ps) (expr y i f)) (expr y i f)) (node k w g s e ps))) (parts_flags ps (first_roles (ways (inside (wants_pair (node k w g s e ps) (expr y i f)) (expr y i f)) (node k w g s e ps)))) (unwrapped (parts_rows ps (first_roles (ways b (node k w g s e ps)))))) (widest_whole (expr y i f) (wants_pair (node k w g s e ps) (expr y i f)) refl)
own_flags (node k w g s e ps) (expr y i f) false ws vs h q =
    q ∙ append_assoc ws (false ∷ []) _ ∙ ap (λ u. ws ++ u) (sym (ap unwrapped (rows_inner (node k w g s e ps) y i f) ∙ one_more _))
own_flags n _ may_wrap ws vs h q = absurd (cc)

-- A script

pub total_is : (o l : Option ℕ) (t : ℕ) → IsSome l → o ≡ l → ((s : ℕ) → o ≡ Some s → t ≡ s) → Some t ≡ l
total_is o None t h e k = absurd (cc)
total_is o (Some s) t h e k = ap (λ m. Some m) (k s e)

-- An expression, step by step

own_rows : (n : Tree) (a : Role) → is_expression a ≡ true → rows n a ≡ 1 + parts_rows (parts_of n) (first_roles (ways (expr Expression true Any) n))
own_rows n (expr y i f) h = rows_inner n y i f
own_rows n _ h = absurd (cc)

pub own_few : (n : Tree) (a o : Role) (b : Bool) (m : ℕ) → is_expression a ≡ true → o ≡ inside b a → rows n a ≤ m → parts_rows (parts_of n) (first_roles (ways (widest o) n)) ≤ m
own_few n a o b m h q l =
    let wide : widest o ≡ expr Expression true Any = ap widest q ∙ widest_whole a b h in
    let inner : parts_rows (parts_of n) (first_roles (ways (expr Expression true Any) n)) ≤ m = omega (arith, own_rows n a h, l) in
    subst (λ r. parts_rows (parts_of n) (first_roles (ways r n)) ≤ m) (sym wide) inner

pub own_result : (n : Tree) (a o : Role) (may_wrap b : Bool) (ws us vs : List Bool) → is_expression a ≡ true → o ≡ inside b a → b ≡ (may_wrap && wants_pair n a) → us ≡ ws ++ b ∷ [] →
    vs ≡ us ++ cond may_wrap (inner_flags n o) (unwrapped (parts_rows (parts_of n) (first_roles (ways (widest o) n)))) → vs ≡ ws ++ cond may_wrap (flags n a) (unwrapped (rows n a))
own_result n a o may_wrap b ws us vs h q e u k =
    let r : o ≡ inside (may_wrap && wants_pair n a) a = q ∙ ap (λ v. inside v a) e in
    own_flags n a may_wrap ws vs h
    (k ∙ ap (λ w. w ++ cond may_wrap (inner_flags n o) (unwrapped (parts_rows (parts_of n) (first_roles (ways (widest o) n))))) (u ∙ ap (λ v. ws ++ v ∷ []) e)
    ∙ (λ j. (ws ++ (may_wrap && wants_pair n a) ∷ []) ++ cond may_wrap (inner_flags n (r j)) (unwrapped (parts_rows (parts_of n) (first_roles (ways (widest (r j)) n))))))

pub plain_few : (n : Tree) (a : Role) (m : ℕ) → is_expression a ≡ false → rows n a ≤ m → parts_rows (parts_of n) (first_roles (ways (widest a) n)) ≤ m
plain_few n a m h l = subst (λ k. k ≤ m) (plain_rows n a h) l
