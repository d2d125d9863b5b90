-- The rows and the numbers of a node, from those of its parts.
use Rattle.std.proofs.Common.{◌≡◌, ℕ, Bool, true, false, cond, List, [], ◌∷◌, ◌++◌, Option, Some, None, refl, sym, ap, ◌∙◌, subst, arith}
use Rattle.std.specs.Prelude.{◌&&◌, nat_eq}
use Rattle.std.proofs.lemmas.Bool.{false≢true}
use Rattle.std.proofs.lemmas.Bool.Decides.{nat_tests}
use Rattle.tree.specs.Tree.{Tree, node, Parts, none, part, gap, parts_of, part_at}
use Rattle.language.specs.declared.Rank.{Rank}
use Rattle.language.specs.declared.Start.{Start}
use Rattle.language.specs.Pieces.{Role, expr, PieceOf, Slot}
use Rattle.language.specs.Expressions.{has_optional, first_has_optional}
use Rattle.language.specs.Grammar.{ways}
use Rattle.language.specs.RowPositions.{first_roles, widest}
use Rattle.language.specs.Layout.{some_way}
use Rattle.language.specs.Cost.{add_cost, if_any, least, parts_least, cell}
use Rattle.spelling_table.specs.Requirements.{fits_outline}
use Rattle.spellings.specs.Spelled.{settled_roles, Verdict}
use Rattle.spellings.specs.Remaining.{left}
use Rattle.spellings.specs.Wherever.{NodeSpelling, with_own, spelled_roles, IsSpelledWherever}
use Rattle.spellings.proofs.SlotSteps.{spelled_here}
use Rattle.cost_table.specs.declared.costs.Costs as own
use Rattle.cost_table.specs.declared.node_costs.NodeCosts.{NodeCosts}
use Rattle.cost_table.specs.Costs.{capped, capped_sum, each, sums, same_everywhere, cells_at}
use Rattle.cost_table.specs.Weighed.{settled_at, uses, fitting, sums_over, IsWeighed}
use Rattle.cost_table.specs.Rows.{is_expression, table_rows, parts_table}
use Rattle.cost_table.proofs.Sums.{capped-add, sums-zero}
use Rattle.cost_table.proofs.Known.{own_widest, fits_widest, use_known}

-- Steps over parts

-- a part at a slot, before the others
pub sums-part : (n : Tree) (ps : Parts) (a : Role) (s : Slot) (xs : List Slot) (w : NodeCosts) → IsWeighed (settled_at a s) n w → sums (uses a s w) (sums_over ps a xs) ≡ sums_over (part n ps) a (s ∷ xs)
unfolding parts_least
sums-part n ps a s xs w h = λ j. each (λ y i f. one y i f j)
  where
    one : (y : Rank) (i : Bool) (f : Start) → capped_sum (Rattle.cost_table.specs.Weighed.least_of w (settled_at (with_own y i f a) s)) (capped (parts_least ps (settled_roles (with_own y i f a) xs))) ≡ capped (add_cost (least n (settled_at (with_own y i f a) s)) (parts_least ps (settled_roles (with_own y i f a) xs)))
    one y i f = ap (λ u. capped_sum u (capped (parts_least ps (settled_roles (with_own y i f a) xs)))) (use_known a s n w h y i f) ∙ sym (capped-add _ _)

pub sums-gap : (ps : Parts) (a : Role) (xs : List Slot) → sums_over (gap ps) a xs ≡ sums_over ps a xs
unfolding parts_least
sums-gap ps a xs = refl

pub sums-end : (a : Role) (xs : List Slot) → sums_over none a xs ≡ same_everywhere (Some 0)
unfolding parts_least capped
sums-end a xs = refl

pub sums-stop : (n : Tree) (ps : Parts) (a : Role) → sums_over (part n ps) a [] ≡ same_everywhere None
unfolding parts_least capped
sums-stop n ps a = refl

pub table-part : (n : Tree) (ps : Parts) (a : Role) (s : Slot) (xs : List Slot) → parts_table (part n ps) (settled_roles a (s ∷ xs)) ≡ table_rows n (settled_at a s) ++ parts_table ps (settled_roles a xs)
unfolding parts_table
table-part n ps a s xs = refl

pub table-gap : (ps : Parts) (xs : List Role) → parts_table (gap ps) xs ≡ parts_table ps xs
unfolding parts_table
table-gap ps xs = refl

pub table-end : (xs : List Role) → parts_table none xs ≡ []
unfolding parts_table
table-end xs = refl

pub table-stop : (n : Tree) (ps : Parts) → parts_table (part n ps) [] ≡ []
unfolding parts_table
table-stop n ps = refl

pub table-empty : (ps : Parts) → parts_table ps [] ≡ []
unfolding parts_table
table-empty none = refl
table-empty (gap ps) = table-empty ps
table-empty (part n ps) = refl

-- A node

known_when : (xs : List (List (PieceOf Role))) (r : Option (List Role)) → Verdict xs r → (ps : Parts) → (v : Bool) (rs : List Role) → r ≡ cond v (Some rs) None →
    cond v (capped (parts_least ps rs)) None ≡ capped (if_any xs (parts_least ps (first_roles xs)))
unfolding if_any capped
known_when [] None v ps true rs e = absurd (cc)
known_when [] None v ps false rs e = refl
known_when (y ∷ ys) None v ps b rs e = absurd (cc)
known_when [] (Some qs) v ps b rs e = absurd (false≢true v.0)
known_when (y ∷ ys) (Some qs) v ps true rs e = let same : qs ≡ rs = cc in ap (λ u. capped (parts_least ps u)) (sym same ∙ sym v.1)
known_when (y ∷ ys) (Some qs) v ps false rs e = absurd (cc)

pub way_when : (xs : List (List (PieceOf Role))) (r : Option (List Role)) → Verdict xs r → (v : Bool) (rs : List Role) → r ≡ cond v (Some rs) None → some_way xs ≡ v
way_when xs None h true rs e = absurd (cc)
way_when xs None h false rs e = ap some_way h
way_when xs (Some qs) h true rs e = h.0
way_when xs (Some qs) h false rs e = absurd (cc)

-- what is spelled, with the sums over its parts
pub weighed_some : (a : Role) (n : Tree) (x : NodeSpelling) → IsSpelledWherever (widest a) n (Some x) → (c d : own.Costs) → c ≡ sums_over (parts_of n) (widest a) (left x.slots) → d ≡ fitting (widest a) x.outline c →
    IsWeighed a n (record { outline = Some x.outline; costs = d })
unfolding cells_at cell
weighed_some a n x h c d e g = record {
  fits = λ y i f. subst (λ b. some_way (ways b n) ≡ fits_outline b x.outline) (own_widest y i f a) (way_when (ways (with_own y i f (widest a)) n) (spelled_roles (with_own y i f (widest a)) (Some x)) (h y i f) (fits_outline (with_own y i f (widest a)) x.outline) (settled_roles (with_own y i f (widest a)) (left x.slots)) refl);
  costs = g ∙ ap (fitting (widest a) x.outline) e ∙ (λ j. each (λ y i f. one y i f j)) ∙ (λ j. each (λ y i f. capped (cell n (own_widest y i f a j))));
}
  where
    one : (y : Rank) (i : Bool) (f : Start) → cond (fits_outline (with_own y i f (widest a)) x.outline) (capped (parts_least (parts_of n) (settled_roles (with_own y i f (widest a)) (left x.slots)))) None ≡ capped (cell n (with_own y i f (widest a)))
    one y i f = known_when (ways (with_own y i f (widest a)) n) (spelled_roles (with_own y i f (widest a)) (Some x)) (h y i f) (parts_of n) (fits_outline (with_own y i f (widest a)) x.outline) (settled_roles (with_own y i f (widest a)) (left x.slots)) refl

pub weighed_none : (a : Role) (n : Tree) → IsSpelledWherever (widest a) n None → IsWeighed a n (record { outline = None; costs = same_everywhere None })
unfolding cells_at cell capped if_any
weighed_none a n h = record {
  fits = λ y i f. subst (λ b. some_way (ways b n) ≡ false) (own_widest y i f a) (ap some_way (h y i f));
  costs = λ j. each (λ y i f. one y i f j);
}
  where
    one : (y : Rank) (i : Bool) (f : Start) → None ≡ capped (cell n (with_own y i f a))
    one y i f = subst (λ b. None ≡ capped (cell n b)) (own_widest y i f a) (sym (ap (λ u. capped (if_any u (parts_least (parts_of n) (first_roles u)))) (h y i f)))

-- the positions of its parts at the widest position
pub roles_some : (a : Role) (n : Tree) (x : NodeSpelling) → IsSpelledWherever (widest a) n (Some x) → first_roles (ways (widest a) n) ≡ settled_roles (widest a) (left x.slots)
roles_some a n x h =
    let b = widest a in
    let v : Verdict (ways b n) (spelled_roles b (Some x)) = spelled_here b n (Some x) h in
    let w : Verdict (ways b n) (Some (settled_roles b (left x.slots))) = subst (λ u. Verdict (ways b n) (cond u (Some (settled_roles b (left x.slots))) None)) (fits_widest a x.outline) v in
    w.1

pub roles_none : (a : Role) (n : Tree) → IsSpelledWherever (widest a) n None → first_roles (ways (widest a) n) ≡ []
roles_none a n h =
    let b = widest a in
    let v : ways b n ≡ [] = spelled_here b n None h in
    ap first_roles v

-- the first part of what is above parts of a chain
pub chained_part : (n u : Tree) → first_has_optional (parts_of n) ≡ true → Some u ≡ part_at (parts_of n) 0 → has_optional u ≡ true
chained_part (node k w g s e none) u h p = absurd (cc)
chained_part (node k w g s e (gap ps)) u h p = absurd (cc)
chained_part (node k w g s e (part t ps)) u h p = let same : u ≡ t = cc in ap has_optional same ∙ h

-- The turns of the loop over parts

pub whole_turn : (s t u : own.Costs) → t ≡ sums s u → sums t (same_everywhere (Some 0)) ≡ t
whole_turn s t u k = ap (λ c. sums c (same_everywhere (Some 0))) k ∙ sums-zero s u ∙ sym k

-- A node, where its own position is the widest

is_zero : (i : ℕ) → nat_eq i 0 ≡ true → i ≡ 0
is_zero i e = grind (arith, nat_tests)

chain_first : (h : Bool) (i : ℕ) → (h && nat_eq i 0) ≡ true → (h ≡ true) × (i ≡ 0)
chain_first true i e = (refl, is_zero i e)
chain_first false i e = absurd (cc)

-- what is known of a part at its place
pub chained_at : (n u : Tree) (i : ℕ) (h b : Bool) → (h ≡ true → first_has_optional (parts_of n) ≡ true) → Some u ≡ part_at (parts_of n) i → b ≡ (h && nat_eq i 0) → b ≡ true → has_optional u ≡ true
chained_at n u i h b k p e t =
    let both : (h ≡ true) × (i ≡ 0) = chain_first h i (sym e ∙ t) in
    chained_part n u (k both.0) (p ∙ ap (part_at (parts_of n)) both.1)
