-- Nothing, at each symbol, In and start.
use Rattle.std.proofs.Common.{◌≡◌, ℕ, Bool, true, false, cond, nat_le, Option, Some, refl, ◌∙◌}
use Rattle.language.specs.declared.Rank.{Rank}
use Rattle.language.specs.declared.Start.{Start}
use Rattle.language.specs.declared.Start.TheVariants as start
use Rattle.language.specs.Vocabulary.{precedence}
use Rattle.language.specs.Cost.{lesser, add_cost}
use Rattle.cost_table.specs.Costs.{same_everywhere, each_start, started_at, cost_at, capped, capped_sum}

zero_started : (f : Start) → started_at (each_start (λ g. Some 0)) f ≡ Some 0
zero_started start.Any = refl
zero_started start.NoBrace = refl
zero_started start.Statement = refl

either : (b i : Bool) (s : Option ℕ) → cond b s (cond i s s) ≡ s
either true i s = refl
either false true s = refl
either false false s = refl

pub zero_at : (y : Rank) (i : Bool) (f : Start) → cost_at (same_everywhere (Some 0)) y i f ≡ Some 0
zero_at y i f = either (nat_le 21 (precedence y)) i (started_at (each_start (λ g. Some 0)) f) ∙ zero_started f

pub zero_or_one : lesser (Some 0) (capped_sum (Some 1) (Some 0)) ≡ Some 0
unfolding lesser capped_sum capped add_cost
zero_or_one = refl
