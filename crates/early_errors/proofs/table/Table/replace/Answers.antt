use Rattle.std.proofs.Common.{◌≡◌, ℕ, Bool, true, false, cond, List, Option, Some, refl, ap, ◌∙◌}
use Rattle.std.specs.Str.{bytes_eq}
use Rattle.std.specs.Map.{update}
use Rattle.std.proofs.lemmas.Map.Text.{btree_map_updates_str}
use Rattle.std.specs.BTreeMap.{get_by}
use Rattle.std.specs.Cmp.Lexicographic.{slice_cmp}
use Rattle.std.specs.Ordering.{nat_cmp}
use Rattle.name_tables.specs.Tables.{value_of}
use Rattle.early_errors.proofs.table.Table.replace.Goals as goal

value_chosen : {V : Type 0} (f : List ℕ → Option (Option V)) (n : List ℕ) (v : Option V) (w : List ℕ) → value_of (update bytes_eq f n (Some v) w) ≡ cond (bytes_eq n w) v (value_of (f w))
value_chosen f n v w = pick (bytes_eq n w)
  where
    pick : (b : Bool) → value_of (cond b (Some v) (f w)) ≡ cond b v (value_of (f w))
    pick true = refl
    pick false = refl

pub returns-in-Some-clause-after : goal.returns-in-Some-clause-after
returns-in-Some-clause-after g c = λ w. ap value_of (btree_map_updates_str c.args.name.now c.args.self.now.entries c.insert.new.self (Some c.args.value) c.in_ok-before.ensures.updates w) ∙ value_chosen (λ x. get_by (λ k. slice_cmp nat_cmp x k.now) c.args.self.now.entries) c.args.name.now c.args.value w

pub returns-in-None-clause-after : goal.returns-in-None-clause-after
returns-in-None-clause-after g c = λ w. ap value_of (btree_map_updates_str c.args.name.now c.args.self.now.entries c.insert.new.self (Some c.args.value) c.in_ok-before.ensures.updates w) ∙ value_chosen (λ x. get_by (λ k. slice_cmp nat_cmp x k.now) c.args.self.now.entries) c.args.name.now c.args.value w
