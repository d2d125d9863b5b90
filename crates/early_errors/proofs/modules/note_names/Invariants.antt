use Rattle.std.proofs.Common.{◌≡◌, ℕ, List, take, is_some}
use Rattle.std.specs.Prelude.{◌||◌}
use Rattle.early_errors.specs.Names.{has_name}
use Rattle.early_errors.specs.Walk.{all_named, look}
use Rattle.early_errors.proofs.modules.note_names.Given as goal

abbrev pub invariant-loop-named : goal.invariant-loop-named
invariant-loop-named l = (w : List ℕ) → is_some (look l.there w) ≡ (has_name w (all_named (take l.named-index l.names)) || is_some (look l.fn.there w))
