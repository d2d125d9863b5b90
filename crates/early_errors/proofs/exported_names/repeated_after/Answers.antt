use Rattle.std.proofs.Common.{◌≡◌, ℕ, List, [], get_or, take, is_some, sym, ap, ◌∙◌}
use Rattle.std.proofs.lemmas.List.{take_all}
use Rattle.std.proofs.lemmas.Map.Text.{btree_map_updates_str}
use Rattle.std.specs.BTreeMap.{get_by}
use Rattle.std.specs.Cmp.Lexicographic.{slice_cmp}
use Rattle.std.specs.Ordering.{nat_cmp}
use Rattle.early_errors.specs.declared.EarlyError.TheVariants.{DuplicateExport}
use Rattle.early_errors.specs.Early.{each}
use Rattle.early_errors.specs.ExportsRead.{all_exported}
use Rattle.early_errors.specs.Names.{places, twice, has_name}
use Rattle.early_errors.specs.Walk.{after}
use Rattle.early_errors.proofs.NameLoops.{behind}
use Rattle.early_errors.proofs.Exports.{exported_turn, seen_turn}
use Rattle.early_errors.proofs.exported_names.repeated_after.Goals as goal

pub loop-index-preserved : goal.loop-index-preserved
loop-index-preserved c =
    let xs = c.args.names.now in
    let i = c.loop-index.index in
    let y = c.index-names-index.result in
    let known = λ (w : List ℕ). get_by (λ k. slice_cmp nat_cmp w k.now) c.loop-index.seen in
    let at : get_or xs i y ≡ y = sym c.index-names-index.is in
    record {
      so_far =
          c.with_error_if-found.ensures
          ∙ exported_turn xs i y y c.loop-index-test.true at c.args.found c.loop-index.found c.is_some.result
          (ap (λ u. has_name u (behind [] (all_exported (take i xs)))) (sym c.as_slice.ensures.value) ∙ sym (c.loop-index.invariant.seen c.as_slice.result.now) ∙ sym (c.is_some.ensures ∙ ap is_some c.in_ok-before.ensures.old)) c.loop-index.invariant.so_far;
      seen = seen_turn xs i y y c.loop-index-test.true at known (λ w. get_by (λ k. slice_cmp nat_cmp w k.now) c.insert.new.self) c.as_slice.result.now c.as_slice.ensures.value
          (λ w. btree_map_updates_str c.as_slice.result.now c.loop-index.seen c.insert.new.self _ c.in_ok-before.ensures.updates w) c.loop-index.invariant.seen;
    }

pub returns : goal.returns
returns c = c.loop-index.invariant.so_far ∙ ap (λ l. after c.args.found (each DuplicateExport (places (twice (all_exported l))))) (take_all c.loop-index.index c.args.names.now c.loop-index-test.false)
