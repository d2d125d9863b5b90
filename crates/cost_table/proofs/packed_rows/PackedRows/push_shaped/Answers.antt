use Rattle.std.proofs.Common.{length}
use Rattle.cost_table.proofs.PackedRowLists.{one_more_packed}
use Rattle.cost_table.proofs.packed_rows.PackedRows.push_shaped.Goals as goal

pub invariant_of-self-2 : goal.invariant_of-self-2
invariant_of-self-2 c = one_more_packed (length c.self.inside.apart.items) c.self.inside.turned c.self.inside.packed c.push.new.self _ c.self.invariant c.in_ok-push.ensures.items tt
