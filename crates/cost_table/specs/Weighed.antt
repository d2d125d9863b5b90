-- What is known of a node that was weighed.
use Rattle.std.specs.Prelude.{◌≡◌, ℕ, Bool, true, false, not, cond, ◌&&◌, Option, Some, None, List}
use Rattle.language.specs.declared.Rank.{Rank}
use Rattle.language.specs.declared.Rank.TheVariants.{Member}
use Rattle.language.specs.declared.Start.{Start}
use Rattle.tree.specs.Tree.{Tree, Parts}
use Rattle.language.specs.Pieces.{Role, expr, chain_part, pattern, Slot, fixed, left, lead, tail, callee, settle}
use Rattle.language.specs.Vocabulary.{takes}
use Rattle.language.specs.Grammar.{ways, own_rank, own_in, own_start}
use Rattle.language.specs.Cost.{lesser, parts_least}
use Rattle.language.specs.Layout.{some_way}
use Rattle.spelling_table.specs.declared.outline.FirstToken.{FirstToken}
use Rattle.spelling_table.specs.declared.outline.FirstToken.TheVariants.{Other}
use Rattle.spelling_table.specs.declared.outline.Outline.{Outline}
use Rattle.spelling_table.specs.Requirements.{fits_outline}
use Rattle.spellings.specs.Spelled.{settled_roles}
use Rattle.spellings.specs.Wherever.{NodeSpelling, with_own}
use Rattle.cost_table.specs.declared.costs.Costs as own
use Rattle.cost_table.specs.declared.node_costs.NodeCosts.{NodeCosts}
use Rattle.cost_table.specs.Costs.{capped, capped_sum, started_at, each, cost_at, cells_at}

-- a spelling by this outline, if there is one, fits the position
abbrev pub fits_any : Role → Option Outline → Bool
fits_any a None = false
fits_any a (Some x) = fits_outline a x

-- whether what is known of a node's spelling fits at a position
abbrev pub fits_spelled : Role → Option NodeSpelling → Bool
fits_spelled a None = false
fits_spelled a (Some x) = fits_outline a x.outline

-- the number that counts at a position
abbrev pub cost_of : own.Costs → Role → Option ℕ
cost_of c (expr y i f) = cost_at c y i f
cost_of c (chain_part f) = started_at c.has_in f
cost_of c (pattern b f) = started_at c.has_in f
cost_of c a = c.has_in.any

-- without a pair round it
abbrev pub direct_cost : NodeCosts → Role → Option ℕ
direct_cost w a = cond (fits_any a w.outline) (cost_of w.costs a) None

-- with a pair round it or without
abbrev pub least_of : NodeCosts → Role → Option ℕ
least_of w (expr y i f) = lesser (direct_cost w (expr y i f)) (capped_sum (Some 1) w.costs.has_in.any)
least_of w a = direct_cost w a

-- it asks for no In, and opens with no brace and no word
abbrev pub is_otherwise : FirstToken → Bool
is_otherwise Other = true
is_otherwise x = false

abbrev pub is_plain_outline : Outline → Bool
is_plain_outline x = not x.needs_in && is_otherwise x.opens

-- what is spelled so at this symbol may stand there; at such a slot, wherever the node above stands
abbrev pub role_free : Role → Rank → Bool
role_free (expr y i f) z = takes y z
role_free a z = true

abbrev pub slot_free : Slot → Rank → Bool
slot_free (fixed a) z = role_free a z
slot_free (left y) z = takes y z
slot_free (lead y) z = takes y z
slot_free (tail y f) z = takes y z
slot_free callee z = takes Member z
slot_free s z = true

-- the position that a slot is
abbrev pub settled_at : Role → Slot → Role
settled_at a s = settle (own_rank a) (own_in a) (own_start a) s

-- what a part at a slot costs, wherever its node stands
abbrev pub uses : Role → Slot → NodeCosts → own.Costs
uses a s w = each (λ y i f. least_of w (settled_at (with_own y i f a) s))

-- the numbers, none where the spelling doesn't fit
abbrev pub fitting : Role → Outline → own.Costs → own.Costs
fitting a x c = each (λ y i f. cond (fits_outline (with_own y i f a) x) (cost_at c y i f) None)

-- the sums over parts at these slots
abbrev pub sums_over : Parts → Role → List Slot → own.Costs
sums_over ps a xs = each (λ y i f. capped (parts_least ps (settled_roles (with_own y i f a) xs)))

-- its outline says where it can be spelled directly, and its numbers are its cells
pub record IsWeighed (a : Role) (n : Tree) (w : NodeCosts) : Type 0 where
  pub fits : (y : Rank) (i : Bool) (f : Start) → some_way (ways (with_own y i f a) n) ≡ fits_any (with_own y i f a) w.outline
  pub costs : w.costs ≡ cells_at n a
