use Rattle.std.proofs.Common.{◌≡◌, Bool, true, false, ◌||◌, sym, ◌∙◌}
use Rattle.regular_expressions.proofs.property.is_script.Goals as goal
use Rattle.regular_expressions.proofs.property.is_script.Goals.{then-lists, else-lists}

third : (a b d r : Bool) → a ≡ false → b ≡ false → r ≡ d → r ≡ (a || b || d)
third false false d r e f g = g
third true b d r e f g = cc
third false true d r e f g = cc

pub returns-else-lists-2 : goal.returns-else-lists-2
returns-else-lists-2 c = elim c.if-lists.branch [
  | then-lists w ↦ cc
  | else-lists w ↦ third _ _ _ c.lists-else-lists-2.result (sym c.lists.ensures ∙ w.if-lists.false) (sym w.lists-else-lists.ensures ∙ sym w.value-is ∙ c.if-lists-2.false) c.lists-else-lists-2.ensures
]
