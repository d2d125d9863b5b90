-- What a node that was weighed costs.
use Rattle.std.proofs.Common.{◌≡◌, ℕ, Bool, true, false, cond, nat_le, List, [], ◌∷◌, Option, Some, None, refl, sym, ap, ap₂, ◌∙◌, subst}
use Rattle.std.specs.Prelude.{◌&&◌}
use Rattle.std.proofs.lemmas.Bool.{false≢true}
use Rattle.tree.specs.Tree.{Tree, node, parts_of}
use Rattle.tree.specs.Uses.{implies}
use Rattle.language.specs.declared.Rank.{Rank}
use Rattle.language.specs.declared.Rank.TheVariants.{Expression, Member, Primary, Grouped}
use Rattle.language.specs.declared.Start.{Start}
use Rattle.language.specs.declared.Start.TheVariants.{Any, NoBrace, Statement}
use Rattle.language.specs.Vocabulary.{precedence, takes}
use Rattle.language.specs.Pieces.{Role, expr, chain_part, pattern, PieceOf, Slot, fixed, left, lead, tail, callee, lead_chain, lead_pattern}
use Rattle.language.specs.Grammar.{ways, own_rank, own_in, own_start}
use Rattle.language.specs.RowPositions.{first_roles, widest}
use Rattle.language.specs.Layout.{some_way}
use Rattle.language.specs.Cost.{add_cost, lesser, if_any, least, parts_least, cell, cell_position}
use Rattle.spelling_table.specs.declared.outline.Outline.{Outline}
use Rattle.spelling_table.specs.Outlines.{opens_at}
use Rattle.spelling_table.specs.Requirements.{fits_outline}
use Rattle.spellings.specs.Wherever.{with_own}
use Rattle.spellings.proofs.SlotSteps.{own_again}
use Rattle.cost_table.specs.declared.costs.Costs as own
use Rattle.cost_table.specs.declared.node_costs.NodeCosts.{NodeCosts}
use Rattle.cost_table.specs.Costs.{capped, capped_sum, started_at, each, cost_at, cells_at}
use Rattle.cost_table.specs.Weighed.{fits_any, least_of, settled_at, IsWeighed}
use Rattle.cost_table.proofs.Sums.{capped-one, capped-lesser}

-- Positions with their own symbol, In and start

pub own_widest : (y : Rank) (i : Bool) (f : Start) (a : Role) → with_own y i f (widest a) ≡ with_own y i f a
own_widest y i f (expr z j x) = refl
own_widest y i f (chain_part x) = refl
own_widest y i f (pattern b x) = refl
own_widest y i f _ = refl

and_left : (a b : Bool) → (a && b) ≡ true → a ≡ true
and_left true b h = refl
and_left false b h = absurd (cc)

and_right : (a b : Bool) → (a && b) ≡ true → b ≡ true
and_right true b h = h
and_right false b h = absurd (cc)

both : (a b : Bool) → a ≡ true → b ≡ true → (a && b) ≡ true
both true b h k = k
both false b h k = absurd (cc)

pub implies_true : (a : Bool) → implies a true ≡ true
implies_true true = refl
implies_true false = refl

pub takes_all : (z : Rank) → takes Expression z ≡ true
takes_all Member = refl
takes_all _ = refl

tighter : (z : Rank) → takes Primary z ≡ true → takes Member z ≡ true
tighter Member k = refl
tighter Primary k = refl
tighter Grouped k = refl
tighter _ k = absurd (cc)

tightest : (z : Rank) → takes Grouped z ≡ true → takes Member z ≡ true
tightest Grouped k = refl
tightest _ k = absurd (cc)

pub takes_tight : (y z : Rank) → nat_le 21 (precedence y) ≡ true → takes y z ≡ true → takes Member z ≡ true
takes_tight Member z h k = k
takes_tight Primary z h k = tighter z k
takes_tight Grouped z h k = tightest z k
takes_tight _ z h k = absurd (cc)

-- at the widest position all fits
pub fits_widest : (a : Role) (x : Outline) → fits_outline (widest a) x ≡ true
fits_widest (expr y i f) x = both (takes Expression x.rank) (implies x.needs_in true && opens_at Any x.opens) (takes_all x.rank) (both (implies x.needs_in true) (opens_at Any x.opens) (implies_true x.needs_in) refl)
fits_widest (chain_part f) x = refl
fits_widest (pattern b f) x = refl
fits_widest _ x = refl

-- what fits a position fits that of the cell that counts there
pub fits_cell : (y : Rank) (i : Bool) (f : Start) (o : Option Outline) → fits_any (expr y i f) o ≡ true → fits_any (cell_position (expr y i f)) o ≡ true
fits_cell y i f None h = absurd (false≢true h)
fits_cell y i f (Some x) h = of (nat_le 21 (precedence y)) refl
  where
    behind : (implies x.needs_in i && opens_at f x.opens) ≡ true
    behind = and_right (takes y x.rank) (implies x.needs_in i && opens_at f x.opens) h

    front : takes y x.rank ≡ true
    front = and_left (takes y x.rank) (implies x.needs_in i && opens_at f x.opens) h

    of : (b : Bool) → nat_le 21 (precedence y) ≡ b → fits_outline (cond b (expr Member true f) (expr Expression i f)) x ≡ true
    of true e = both (takes Member x.rank) (implies x.needs_in true && opens_at f x.opens) (takes_tight y x.rank e front) (both (implies x.needs_in true) (opens_at f x.opens) (implies_true x.needs_in) (and_right (implies x.needs_in i) (opens_at f x.opens) behind))
    of false e = both (takes Expression x.rank) (implies x.needs_in i && opens_at f x.opens) (takes_all x.rank) behind

-- Cells

some_is : (xs : List (List (PieceOf Role))) (x : Option ℕ) → some_way xs ≡ true → if_any xs x ≡ x
unfolding if_any
some_is [] x h = absurd (false≢true h)
some_is (y ∷ ys) x h = refl

none_is : (xs : List (List (PieceOf Role))) (x : Option ℕ) → some_way xs ≡ false → if_any xs x ≡ None
unfolding if_any
none_is [] x h = refl
none_is (y ∷ ys) x h = absurd (false≢true (sym h))

-- a number that counts where the spelling fits
plain_known : (n : Tree) (b : Role) (o : Option Outline) (x : Option ℕ) → some_way (ways b n) ≡ fits_any b o → x ≡ capped (cell n b) → cond (fits_any b o) x None ≡ capped (cell n b)
unfolding cell capped
plain_known n b o x h e = of (fits_any b o) h
  where
    of : (v : Bool) → some_way (ways b n) ≡ v → cond v x None ≡ capped (cell n b)
    of true k = e
    of false k = sym (ap capped (none_is (ways b n) _ k))

abbrev cells_of : Tree → own.Costs
cells_of n = each (λ y i f. capped (cell n (expr y i f)))

counted_at : (n : Tree) (b i : Bool) (f : Start) → cond b (started_at (cells_of n).at_member f) (cond i (started_at (cells_of n).has_in f) (started_at (cells_of n).without_in f)) ≡ capped (cell n (cond b (expr Member true f) (expr Expression i f)))
counted_at n true i Any = refl
counted_at n true i NoBrace = refl
counted_at n true i Statement = refl
counted_at n false true Any = refl
counted_at n false true NoBrace = refl
counted_at n false true Statement = refl
counted_at n false false Any = refl
counted_at n false false NoBrace = refl
counted_at n false false Statement = refl

pub counted : (c : own.Costs) (n : Tree) (z : Rank) (j : Bool) (g : Start) → c ≡ cells_at n (expr z j g) → (y : Rank) (i : Bool) (f : Start) → cost_at c y i f ≡ capped (cell n (cell_position (expr y i f)))
unfolding cells_at
counted c n z j g e y i f = ap (λ d. cost_at d y i f) e ∙ counted_at n (nat_le 21 (precedence y)) i f

cell_fits : (n : Tree) (z : Rank) (j : Bool) (g : Start) (w : NodeCosts) → IsWeighed (expr z j g) n w → (y : Rank) (i : Bool) (f : Start) →
    some_way (ways (cell_position (expr y i f)) n) ≡ fits_any (cell_position (expr y i f)) w.outline
cell_fits n z j g w h y i f = of (nat_le 21 (precedence y))
  where
    of : (b : Bool) → some_way (ways (cond b (expr Member true f) (expr Expression i f)) n) ≡ fits_any (cond b (expr Member true f) (expr Expression i f)) w.outline
    of true = h.fits Member true f
    of false = h.fits Expression i f

expr_lesser : (v : Bool) (xs ys : List (List (PieceOf Role))) (D A c u : Option ℕ) → some_way xs ≡ v → (v ≡ true → some_way ys ≡ true) → c ≡ capped (if_any ys D) → u ≡ capped A →
    lesser (cond v c None) u ≡ capped (lesser (if_any xs D) A)
unfolding lesser
expr_lesser true xs ys D A c u h k e g =
    ap₂ lesser (e ∙ ap capped (some_is ys D (k refl))) g ∙ capped-lesser D A ∙ ap (λ w. capped (lesser w A)) (sym (some_is xs D h))
expr_lesser false xs ys D A c u h k e g = g ∙ ap (λ w. capped (lesser w A)) (sym (none_is xs D h))

pub least_expr : (n : Tree) (y : Rank) (i : Bool) (f : Start) →
    least n (expr y i f) ≡ lesser (if_any (ways (expr y i f) n) (parts_least (parts_of n) (first_roles (ways (cell_position (expr y i f)) n)))) (add_cost (Some 1) (cell n (expr Expression true Any)))
unfolding least cell
least_expr (node k w g s e ps) y i f = refl

expression_known : (n : Tree) (z : Rank) (j : Bool) (g : Start) (w : NodeCosts) → IsWeighed (expr z j g) n w → (y : Rank) (i : Bool) (f : Start) → least_of w (expr y i f) ≡ capped (least n (expr y i f))
unfolding cells_at cell
expression_known n z j g w h y i f =
    expr_lesser (fits_any (expr y i f) w.outline) (ways (expr y i f) n) (ways (cell_position (expr y i f)) n) (parts_least (parts_of n) (first_roles (ways (cell_position (expr y i f)) n)))
    (add_cost (Some 1) (cell n (expr Expression true Any))) (cost_at w.costs y i f) (capped_sum (Some 1) w.costs.has_in.any)
    (h.fits y i f) (λ t. cell_fits n z j g w h y i f ∙ fits_cell y i f w.outline t) (counted w.costs n z j g h.costs y i f)
    (ap (λ c. capped_sum (Some 1) c.has_in.any) h.costs ∙ capped-one (cell n (expr Expression true Any)))
    ∙ ap capped (sym (least_expr n y i f))

pub least_known : (a : Role) (n : Tree) (w : NodeCosts) → IsWeighed a n w → (y : Rank) (i : Bool) (f : Start) → least_of w (with_own y i f a) ≡ capped (least n (with_own y i f a))
unfolding cells_at least cell
least_known (expr z j g) n w h y i f = expression_known n z j g w h y i f
least_known (chain_part g) (node k t x s e ps) w h y i f = plain_known (node k t x s e ps) (chain_part f) w.outline _ (h.fits y i f) (of f)
  where
    of : (f : Start) → started_at w.costs.has_in f ≡ capped (cell (node k t x s e ps) (chain_part f))
    of Any = ap (λ c. c.has_in.any) h.costs
    of NoBrace = ap (λ c. c.has_in.no_brace) h.costs
    of Statement = ap (λ c. c.has_in.statement) h.costs
least_known (pattern b g) (node k t x s e ps) w h y i f = plain_known (node k t x s e ps) (pattern b f) w.outline _ (h.fits y i f) (of f)
  where
    of : (f : Start) → started_at w.costs.has_in f ≡ capped (cell (node k t x s e ps) (pattern b f))
    of Any = ap (λ c. c.has_in.any) h.costs
    of NoBrace = ap (λ c. c.has_in.no_brace) h.costs
    of Statement = ap (λ c. c.has_in.statement) h.costs
least_known a (node k t x s e ps) w h y i f = plain_known (node k t x s e ps) a w.outline w.costs.has_in.any (h.fits y i f) (ap (λ c. c.has_in.any) h.costs)

-- what a part costs in a node
pub use_known : (a : Role) (s : Slot) (n : Tree) (w : NodeCosts) → IsWeighed (settled_at a s) n w → (y : Rank) (i : Bool) (f : Start) →
    least_of w (settled_at (with_own y i f a) s) ≡ capped (least n (settled_at (with_own y i f a) s))
use_known a (fixed r) n w h y i f = let P : Role → Type 0 = λ b. least_of w b ≡ capped (least n b) in subst P (own_again r) (least_known r n w h (own_rank r) (own_in r) (own_start r))
use_known a (left t) n w h y i f = least_known (settled_at a (left t)) n w h t (own_in (with_own y i f a)) (own_start (with_own y i f a))
use_known a (lead t) n w h y i f = least_known (settled_at a (lead t)) n w h t true (own_start (with_own y i f a))
use_known a (tail t x) n w h y i f = least_known (settled_at a (tail t x)) n w h t (own_in (with_own y i f a)) x
use_known a callee n w h y i f = least_known (settled_at a callee) n w h _ true (own_start (with_own y i f a))
use_known a lead_chain n w h y i f = least_known (settled_at a lead_chain) n w h Expression true (own_start (with_own y i f a))
use_known a lead_pattern n w h y i f = least_known (settled_at a lead_pattern) n w h Expression true (own_start (with_own y i f a))
