-- Numbers of pairs at each symbol, In and start, as a cost table keeps them.
use Rattle.std.specs.Prelude.{◌≡◌, ℕ, zero, Bool, true, false, cond, min, List, [], ◌∷◌, Option, Some, None, nat_le, slice_index_or}
use Rattle.language.specs.declared.Rank.{Rank}
use Rattle.language.specs.declared.Rank.TheVariants.{Expression, Member}
use Rattle.language.specs.declared.Start.{Start}
use Rattle.language.specs.declared.Start.TheVariants.{Any, NoBrace, Statement}
use Rattle.tree.specs.Tree.{Tree}
use Rattle.language.specs.Vocabulary.{precedence}
use Rattle.language.specs.Pieces.{Role}
use Rattle.language.specs.Cost.{add_cost, cell}
use Rattle.spellings.specs.Wherever.{with_own}
use Rattle.cost_table.specs.declared.costs.StartCosts.{StartCosts}
use Rattle.cost_table.specs.declared.costs.Costs as own

-- what a u32 holds of a number of pairs
unfoldable pub capped : Option ℕ → Option ℕ
capped None = None
capped (Some m) = Some (min m 4294967295)

unfoldable pub capped_sum : Option ℕ → Option ℕ → Option ℕ
capped_sum x y = capped (add_cost x y)

abbrev pub is_free : Option ℕ → Bool
is_free (Some zero) = true
is_free x = false

-- the numbers at the three starts
abbrev pub each_start : (Start → Option ℕ) → StartCosts
each_start h = record { any = h Any; no_brace = h NoBrace; statement = h Statement }

abbrev pub started_at : StartCosts → Start → Option ℕ
started_at s Any = s.any
started_at s NoBrace = s.no_brace
started_at s Statement = s.statement

-- a number for each symbol, In and start that matters: whatever symbol that is no tighter than a call, with In and without; Member, with In
abbrev pub each : (Rank → Bool → Start → Option ℕ) → own.Costs
each h = record { has_in = each_start (h Expression true); without_in = each_start (h Expression false); at_member = each_start (h Member true) }

-- the number that counts at a symbol, In and start
abbrev pub cost_at : own.Costs → Rank → Bool → Start → Option ℕ
cost_at c y i f = cond (nat_le 21 (precedence y)) (started_at c.at_member f) (cond i (started_at c.has_in f) (started_at c.without_in f))

abbrev pub same_everywhere : Option ℕ → own.Costs
same_everywhere x = each (λ y i f. x)

abbrev pub sums : own.Costs → own.Costs → own.Costs
sums c d = each (λ y i f. capped_sum (cost_at c y i f) (cost_at d y i f))

abbrev pub no_pairs : own.Costs
no_pairs = same_everywhere (Some 0)

-- it is a sum: no number in it is greater than what a u32 holds
abbrev pub IsHeld : own.Costs → Type 0
IsHeld c = sums c no_pairs ≡ c

-- the eight numbers of a row
abbrev pub eight : own.Costs → List (Option ℕ)
eight c =
    c.has_in.any ∷ c.has_in.no_brace ∷ c.has_in.statement ∷ c.without_in.any ∷ c.without_in.no_brace ∷ c.at_member.any ∷ c.at_member.no_brace ∷ c.at_member.statement ∷ []

-- the numbers of a row's eight cells; a statement without In has none
abbrev pub of_cells : List (Option ℕ) → own.Costs
of_cells xs = record {
  has_in = record { any = slice_index_or xs 0 None; no_brace = slice_index_or xs 1 None; statement = slice_index_or xs 2 None };
  without_in = record { any = slice_index_or xs 3 None; no_brace = slice_index_or xs 4 None; statement = None };
  at_member = record { any = slice_index_or xs 5 None; no_brace = slice_index_or xs 6 None; statement = slice_index_or xs 7 None };
}

-- the cells of a node
unfoldable pub cells_at : Tree → Role → own.Costs
cells_at n a = each (λ y i f. capped (cell n (with_own y i f a)))
