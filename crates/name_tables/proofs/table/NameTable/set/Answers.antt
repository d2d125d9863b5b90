use Rattle.std.proofs.Common.{Some, cond, ap, ◌∙◌}
use Rattle.std.specs.Str.{bytes_eq}
use Rattle.std.proofs.lemmas.Map.Text.{hash_map_updates_str}
use Rattle.indexmap.specs.IndexMap.{get_by}
use Rattle.name_tables.specs.Tables.{value_at, value_of}
use Rattle.name_tables.proofs.Places.{value_chosen}
use Rattle.name_tables.proofs.table.NameTable.set.Goals as goal

pub returns-clause-ok : goal.returns-clause-ok
returns-clause-ok g c = λ w.
    ap value_of (hash_map_updates_str c.args.saved.now.name.now c.write.new.self.entries c.insert.new.self (Some c.args.value) c.in_ok-insert.ensures.updates w)
    ∙ value_chosen (λ x. get_by (λ k. bytes_eq x k.now) c.write.new.self.entries) c.args.saved.now.name.now c.args.value w
    ∙ ap (λ t. cond (bytes_eq c.args.saved.now.name.now w) c.args.value (value_at t w)) c.if-write.ensures.same
