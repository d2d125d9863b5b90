use Rattle.std.proofs.Common.{◌≡◌, ℕ, List, [], take, is_some}
use Rattle.std.specs.BTreeMap.{get_by}
use Rattle.std.specs.Cmp.Lexicographic.{slice_cmp}
use Rattle.std.specs.Ordering.{nat_cmp}
use Rattle.early_errors.specs.declared.EarlyError.TheVariants.{DuplicateExport}
use Rattle.early_errors.specs.Early.{each}
use Rattle.early_errors.specs.ExportsRead.{all_exported}
use Rattle.early_errors.specs.Names.{has_name, places, twice}
use Rattle.early_errors.specs.Walk.{after}
use Rattle.early_errors.proofs.NameLoops.{behind}
use Rattle.early_errors.proofs.exported_names.repeated_after.Given as goal

abbrev pub invariant-loop-index : goal.invariant-loop-index
invariant-loop-index l = record {
  so_far : l.found ≡ after l.fn.found (each DuplicateExport (places (twice (all_exported (take l.index l.names)))));
  seen : (w : List ℕ) → is_some (get_by (λ k. slice_cmp nat_cmp w k.now) l.seen) ≡ has_name w (behind [] (all_exported (take l.index l.names)));
}
