-- A list of arguments goes on as it is behind what is no rest.
use Rattle.std.proofs.Common.{◌≡◌, Bool, true, false, cond, Some, None, refl, ap}
use Rattle.std.specs.Prelude.{not}
use Rattle.tree.specs.declared.kind.Kind.{Kind}
use Rattle.language.specs.Vocabulary.{is_rest}
use Rattle.spelling_table.specs.declared.position.Slot.TheVariants as own-V
use Rattle.spelling_table.specs.declared.outline.ListSlots.TheVariants as tail
use Rattle.spelling_table.specs.Outlines.{argument_at, tail_at}

pub steady_argument : (h : Bool) (k : Kind) (d l b : Bool) → is_rest k ≡ false → tail_at (tail.Arguments h) k d l b ≡ Some (own-V.Fixed (argument_at k), tail.Arguments h)
steady_argument h k d true b e = refl
steady_argument h k d false b e = ap (λ r. cond (not r) (Some (own-V.Fixed (argument_at k), tail.Arguments h)) None) e
