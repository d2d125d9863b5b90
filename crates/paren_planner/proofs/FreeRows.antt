-- The row of a node that asks for no more than its symbol, where its parts cost nothing, and what the node costs in the one above it.
use Rattle.std.proofs.Common.{◌≡◌, true, cond, [], ◌∷◌, Some, refl, ap, ◌∙◌}
use Rattle.tree.specs.declared.kind.Kind.{Kind}
use Rattle.language.specs.Pieces.{Role, Slot}
use Rattle.language.specs.Pieces as role
use Rattle.language.specs.RowPositions.{widest}
use Rattle.spelling_table.specs.declared.outline.Outline.{Outline}
use Rattle.spelling_table.specs.Outlines.{role_of, slot_of}
use Rattle.cost_table.specs.Costs.{no_pairs}
use Rattle.cost_table.specs.Weighed.{is_plain_outline, slot_free, settled_at, uses, fitting}
use Rattle.cost_table.specs.Packed.{shaped, free_shape}
use Rattle.cost_table.specs.Rows.{row_with}
use Rattle.cost_table.proofs.Plainly.{free_costs, plain_uses}
use Rattle.spelling_table.specs.declared.requirements.Requirements.{Requirements}
use Rattle.paren_planner.specs.declared.steps.NodeStep.{NodeStep}
use Rattle.paren_planner.specs.Steps.{outline_of, place_of, has_row_at, weighed_as, used, row_of_visit}

pub free_row_at : (s : Slot) (a : Role) (k : Kind) (x : Outline) → is_plain_outline x ≡ true → cond (has_row_at s) (row_with k (fitting (widest (settled_at a s)) x no_pairs) ∷ []) [] ≡ cond (has_row_at s) (row_with k (shaped (free_shape x.rank) 0) ∷ []) []
free_row_at (role.fixed (role.expr y i f)) a k x p = ap (λ c. row_with k c ∷ []) (free_costs x p)
free_row_at (role.fixed b) a k x p = refl
free_row_at (role.left y) a k x p = ap (λ c. row_with k c ∷ []) (free_costs x p)
free_row_at (role.lead y) a k x p = ap (λ c. row_with k c ∷ []) (free_costs x p)
free_row_at (role.tail y g) a k x p = ap (λ c. row_with k c ∷ []) (free_costs x p)
free_row_at role.callee a k x p = ap (λ c. row_with k c ∷ []) (free_costs x p)
free_row_at role.lead_chain a k x p = refl
free_row_at role.lead_pattern a k x p = refl

pub free_row : (v : NodeStep) (x : Requirements) → v.requirements ≡ Some x → is_plain_outline (outline_of x) ≡ true → row_of_visit v no_pairs ≡ cond (has_row_at (slot_of v.slot)) (row_with v.kind (shaped (free_shape x.rank) 0) ∷ []) []
free_row v x e p =
    ap (λ l. cond (has_row_at (slot_of v.slot)) (row_with v.kind (weighed_as (place_of v) l no_pairs).costs ∷ []) []) e
    ∙ free_row_at (slot_of v.slot) (role_of v.above) v.kind (outline_of x) p

pub free_used : (v : NodeStep) (x : Requirements) → v.requirements ≡ Some x → is_plain_outline (outline_of x) ≡ true → slot_free (slot_of v.slot) x.rank ≡ true → used v no_pairs ≡ no_pairs
free_used v x e p t =
    ap (λ l. uses (role_of v.above) (slot_of v.slot) (weighed_as (place_of v) l no_pairs)) e ∙ plain_uses (slot_of v.slot) (outline_of x) (place_of v) p t (role_of v.above)
