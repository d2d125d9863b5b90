use Rattle.std.proofs.Common.{◌≡◌, ℕ, List, Option, Some, None, cond, subst, slice_get, sym, ap, ◌∙◌}
use Rattle.std.specs.Str.{bytes_eq}
use Rattle.std.proofs.lemmas.Map.Text.{hash_map_updates_str}
use Rattle.indexmap.specs.IndexMap.{get_by}
use Rattle.name_tables.specs.Tables.{value_of}
use Rattle.name_tables.proofs.Places.{inserted, twice_chosen, value_chosen, value_kept, written}
use Rattle.name_tables.proofs.table.NameTable.save.Goals as goal

-- a new name
pub returns-in_default-clause-same : goal.returns-in_default-clause-same
returns-in_default-clause-same g c = λ w.
    let f : List ℕ → Option (Option g.row.V.Denot) = λ x. get_by (λ k. bytes_eq x k.now) c.args.self.now.entries in
    let n = c.args.name.now in
    ap value_of (hash_map_updates_str n c.args.self.now.entries c.insert_full.new.self (Some None) c.in_ok-place.ensures.updates w)
    ∙ value_chosen f n None w ∙ value_kept f n None w (ap value_of (sym c.in_default.is ∙ c.in_ok-place.ensures.old))

-- a name that stood there
pub returns-clause-same : goal.returns-clause-same
returns-clause-same g c = λ w.
    let f : List ℕ → Option (Option g.row.V.Denot) = λ x. get_by (λ k. bytes_eq x k.now) c.args.self.now.entries in
    let n = c.args.name.now in
    let s = inserted c.args.self.now.entries.entries c.args.name None in
    let e = c.in_ok-place.ensures in
    let at = subst (λ es. slice_get es c.in_ok-place.place ≡ Some (s.stored, None)) (sym e.entries) (ap (slice_get _) e.index ∙ s.at) in
    let both = written c.insert_full.new.self c.in_ok-place.place c.in-Some.value None n s.stored e.unique at s.same w in
    let was = ap value_of (hash_map_updates_str n c.args.self.now.entries c.insert_full.new.self (Some None) e.updates w) ∙ value_chosen f n None w in
    both ∙ ap (λ o. cond (bytes_eq n w) c.in-Some.value o) was ∙ twice_chosen f n None c.in-Some.value w ∙ value_kept f n c.in-Some.value w (ap value_of (sym c.in-Some.is ∙ e.old))
