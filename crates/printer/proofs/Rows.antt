-- The rows of a node don't depend on its symbol, In and start.
use Rattle.std.proofs.Common.{◌≡◌, ◌+◌, Bool, true, false, cond, List, [], ◌∷◌, refl, sym, ap, ap₂, ◌∙◌, subst}
use Rattle.std.specs.Prelude.{Option, Some, None, ◌&&◌, map, option_map}
use Rattle.tree.specs.Tree.{Tree, node, Parts, parts_of}
use Rattle.tree.specs.Uses.{implies, is_lean}
use Rattle.language.specs.declared.Rank.{Rank}
use Rattle.language.specs.declared.Rank.TheVariants.{Expression}
use Rattle.language.specs.declared.Rank.TheVariants as ranks
use Rattle.language.specs.declared.Start.TheVariants.{Any}
use Rattle.language.specs.Vocabulary.{takes}
use Rattle.language.specs.Pieces.{Role, expr, chain_part, pattern, Slot, PieceOf}
use Rattle.language.specs.Grammar.{ways, own_rank, own_in, own_start}
use Rattle.language.specs.RowPositions.{has_row, widest, rows, parts_rows, first_roles}
use Rattle.language.specs.Layout.{some_way}
use Rattle.spelling_table.specs.declared.position.Position.{Position}
use Rattle.spelling_table.specs.declared.position.Position.TheVariants as at
use Rattle.spelling_table.specs.declared.outline.Outline.{Outline}
use Rattle.spelling_table.specs.Outlines.{role_of, outline_slots}
use Rattle.spellings.specs.Positions.{outline_at}
use Rattle.spelling_table.specs.Requirements.{fits_outline}
use Rattle.spellings.specs.Spelled.{settled_roles, outlined_roles, roles_by, Verdict}
use Rattle.spellings.proofs.Ways.{position_ways}
use Rattle.row_laws.proofs.WidestRows.{parts_rows-widest, settle-widest}

settled-widest : (a b : Role) (xs : List Slot) → map widest (settled_roles a xs) ≡ map widest (settled_roles b xs)
settled-widest a b [] = refl
settled-widest a b (x ∷ xs) = ap₂ (λ u v. u ∷ v) (settle-widest (own_rank a) (own_rank b) (own_in a) (own_in b) (own_start a) (own_start b) x) (settled-widest a b xs)

-- the rows of parts are as many at two positions of which the second takes more
same_rows : (ps : Parts) (a b : Role) (xs : List Slot) → parts_rows ps (settled_roles a xs) ≡ parts_rows ps (settled_roles b xs)
same_rows ps a b xs = parts_rows-widest ps (settled_roles a xs) ∙ ap (parts_rows ps) (settled-widest a b xs) ∙ sym (parts_rows-widest ps (settled_roles b xs))

takes_all : (z : Rank) → takes Expression z ≡ true
takes_all ranks.Expression = refl
takes_all ranks.Assignment = refl
takes_all ranks.Conditional = refl
takes_all ranks.ShortCircuit = refl
takes_all ranks.Coalesce = refl
takes_all ranks.LogicalOr = refl
takes_all ranks.LogicalAnd = refl
takes_all ranks.BitwiseOr = refl
takes_all ranks.BitwiseXor = refl
takes_all ranks.BitwiseAnd = refl
takes_all ranks.Equality = refl
takes_all ranks.Relational = refl
takes_all ranks.Shift = refl
takes_all ranks.Additive = refl
takes_all ranks.Multiplicative = refl
takes_all ranks.Exponentiation = refl
takes_all ranks.Unary = refl
takes_all ranks.Update = refl
takes_all ranks.LeftHandSide = refl
takes_all ranks.New = refl
takes_all ranks.Call = refl
takes_all ranks.Member = refl
takes_all ranks.Primary = refl
takes_all ranks.Grouped = refl

implied : (b : Bool) → implies b true ≡ true
implied true = refl
implied false = refl

fits-widest : (a : Role) (x : Outline) → fits_outline a x ≡ true → fits_outline (widest a) x ≡ true
fits-widest (expr y i f) x h = ap₂ (λ u v. u && (v && true)) (takes_all x.rank) (implied x.needs_in)
fits-widest (chain_part f) x h = refl
fits-widest (pattern b f) x h = refl
fits-widest _ x h = h

-- the positions at both, by one outline
abbrev RowsBy : Parts → Option (List Role) → Option (List Role) → Type 0
RowsBy ps None v = Unit {0}
RowsBy ps (Some xs) None = ⊥
RowsBy ps (Some xs) (Some ys) = parts_rows ps xs ≡ parts_rows ps ys

rows_outlined : (qs ps : Parts) (a : Role) (o : Option Outline) → RowsBy qs (outlined_roles a ps o) (outlined_roles (widest a) ps o)
rows_outlined qs ps a None = tt
rows_outlined qs ps a (Some x) = of (fits_outline a x) refl
  where
    slots : (u : Option (List Slot)) → RowsBy qs (option_map (settled_roles a) u) (option_map (settled_roles (widest a)) u)
    slots None = tt
    slots (Some xs) = same_rows qs a (widest a) xs

    of : (v : Bool) → fits_outline a x ≡ v → RowsBy qs (cond v (option_map (settled_roles a) (outline_slots x ps)) None) (cond (fits_outline (widest a) x) (option_map (settled_roles (widest a)) (outline_slots x ps)) None)
    of false e = tt
    of true e = subst (λ v. RowsBy qs (option_map (settled_roles a) (outline_slots x ps)) (cond v (option_map (settled_roles (widest a)) (outline_slots x ps)) None)) (sym (fits-widest a x e)) (slots (outline_slots x ps))

rows_by : (n : Tree) (a : Role) (o : Option Outline) → RowsBy (parts_of n) (roles_by a n o) (roles_by (widest a) n o)
rows_by n a o = of (is_lean n)
  where
    of : (v : Bool) → RowsBy (parts_of n) (cond v (outlined_roles a (parts_of n) o) None) (cond v (outlined_roles (widest a) (parts_of n) o) None)
    of true = rows_outlined (parts_of n) (parts_of n) a o
    of false = tt

of_verdicts : (ps : Parts) (us vs : List (List (PieceOf Role))) (x y : Option (List Role)) → Verdict us x → Verdict vs y → RowsBy ps x y → some_way us ≡ true → parts_rows ps (first_roles us) ≡ parts_rows ps (first_roles vs)
of_verdicts ps us vs None y p q h s = let e : some_way us ≡ false = ap some_way p in absurd (cc)
of_verdicts ps us vs (Some xs) None p q h s = absurd h
of_verdicts ps us vs (Some xs) (Some ys) p q h s = ap (parts_rows ps) p.1 ∙ h ∙ sym (ap (parts_rows ps) q.1)

rows_at : (p q : Position) (n : Tree) → role_of q ≡ widest (role_of p) → outline_at q n ≡ outline_at p n → some_way (ways (role_of p) n) ≡ true →
    parts_rows (parts_of n) (first_roles (ways (role_of p) n)) ≡ parts_rows (parts_of n) (first_roles (ways (widest (role_of p)) n))
rows_at p q n e o h = of_verdicts (parts_of n) (ways (role_of p) n) (ways (widest (role_of p)) n) (roles_by (role_of p) n (outline_at p n)) (roles_by (widest (role_of p)) n (outline_at p n))
    (position_ways p n) (subst (λ a. Verdict (ways a n) (roles_by a n (outline_at p n))) e (subst (λ u. Verdict (ways (role_of q) n) (roles_by (role_of q) n u)) o (position_ways q n)))
    (rows_by n (role_of p) (outline_at p n)) h

-- the rows in a node, as its parts are spelled at its own position
pub rows_inside : (p : Position) (n : Tree) → some_way (ways (role_of p) n) ≡ true → rows n (role_of p) ≡ has_row (role_of p) + parts_rows (parts_of n) (first_roles (ways (role_of p) n))
unfolding rows
rows_inside (at.Expression y i f) (node k w g s e ps) h = ap (λ u. 1 + u) (sym (rows_at (at.Expression y i f) (at.Expression Expression true Any) (node k w g s e ps) refl refl h))
rows_inside (at.ChainPart f) (node k w g s e ps) h = ap (λ u. 0 + u) (sym (rows_at (at.ChainPart f) (at.ChainPart Any) (node k w g s e ps) refl refl h))
rows_inside (at.Pattern b f) (node k w g s e ps) h = ap (λ u. 0 + u) (sym (rows_at (at.Pattern b f) (at.Pattern b Any) (node k w g s e ps) refl refl h))
rows_inside p (node k w g s e ps) h = refl
